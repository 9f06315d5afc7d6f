use Rattle.std.proofs.Common.{◌≡◌, ◌+◌, [], ◌∷◌, ◌++◌, take, sym, ap, ◌∙◌}
use Rattle.std.specs.List.{flat_map}
use Rattle.std.proofs.lemmas.List.{take_all, take_more}
use Rattle.trace_text.specs.Parts.{own_cells}
use Rattle.trace_text.proofs.InputCells.{input_cells_are, own_more}
use Rattle.trace_text.proofs.columns.columns.Goals as goal

pub loop-variable-preserved : goal.loop-variable-preserved
loop-variable-preserved c =
    let variables = c.variables-variables.result.now in
    let before = take c.loop-variable.variable-index variables in
    let v = c.variable-item.result in
    let more : take (c.loop-variable.variable-index + 1) variables ≡ before ++ v ∷ [] =
    take_more variables c.loop-variable.variable-index v c.loop-variable-test.true ∙ ap (λ x. before ++ x ∷ []) (sym c.variable-item.is) in
    c.in_ok-push_variable.ensures ∙ ap (λ cs. cs ++ own_cells v) c.loop-variable.invariant ∙ sym (ap (flat_map own_cells) more ∙ own_more before v)

pub returns : goal.returns
returns c =
    let variables = c.variables-variables.result.now in
    c.loop-variable.invariant
    ∙ ap (flat_map own_cells) (take_all c.loop-variable.variable-index variables c.loop-variable-test.false)
    ∙ input_cells_are c.args.checked.now variables c.variables-variables.ensures
