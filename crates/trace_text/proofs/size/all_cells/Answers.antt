use Rattle.std.proofs.Common.{◌≡◌, ◌+◌, [], ◌∷◌, ◌++◌, take, sym, ap, ◌∙◌}
use Rattle.std.proofs.lemmas.List.{take_more, take_all}
use Rattle.hll_types.specs.Measures.{capped}
use Rattle.trace_text.proofs.InputCells.{count_of, count_more, count_all}
use Rattle.trace_text.proofs.size.all_cells.Goals as goal

pub loop-variable-preserved : goal.loop-variable-preserved
loop-variable-preserved c =
    let variables = c.variables-variables.result.now in
    let before = take c.loop-variable.variable-index variables in
    let v = c.variable-item.result in
    let more : take (c.loop-variable.variable-index + 1) variables ≡ before ++ v ∷ [] =
    take_more variables c.loop-variable.variable-index v c.loop-variable-test.true ∙ ap (λ x. before ++ x ∷ []) (sym c.variable-item.is) in
    c.saturating_add-count.ensures
    ∙ count_more before v c.loop-variable.count c.cells_of_type.result c.loop-variable.invariant c.cells_of_type.ensures
    ∙ ap (λ vs. capped (count_of vs)) (sym more)

pub returns : goal.returns
returns c =
    let variables = c.variables-variables.result.now in
    c.loop-variable.invariant
    ∙ ap (λ vs. capped (count_of vs)) (take_all c.loop-variable.variable-index variables c.loop-variable-test.false)
    ∙ ap capped (count_all c.args.checked.now variables c.variables-variables.ensures)
