use Rattle.std.proofs.Common.{◌≡◌, ◌+◌, [], ◌∷◌, ◌++◌, take, sym, ap, ◌∙◌}
use Rattle.std.specs.List.{flat_map}
use Rattle.std.proofs.lemmas.List.{take_all, take_more}
use Rattle.cell_columns.specs.Columns.{all_columns}
use Rattle.trace_text.proofs.InputCells.{text_cells_are, all_more}
use Rattle.trace_text.proofs.columns.text_columns.Goals as goal

pub loop-variable-preserved : goal.loop-variable-preserved
loop-variable-preserved c =
    let variables = c.variables-variables.result.now in
    let before = take c.loop-variable.variable-index variables in
    let v = c.variable-item.result in
    let more : take (c.loop-variable.variable-index + 1) variables ≡ before ++ v ∷ [] =
    take_more variables c.loop-variable.variable-index v c.loop-variable-test.true ∙ ap (λ x. before ++ x ∷ []) (sym c.variable-item.is) in
    c.in_ok-push_columns.ensures ∙ ap (λ cs. cs ++ all_columns v) c.loop-variable.invariant ∙ sym (ap (flat_map all_columns) more ∙ all_more before v)

pub returns : goal.returns
returns c =
    let variables = c.variables-variables.result.now in
    c.loop-variable.invariant
    ∙ ap (flat_map all_columns) (take_all c.loop-variable.variable-index variables c.loop-variable-test.false)
    ∙ text_cells_are c.args.checked.now variables c.variables-variables.ensures
