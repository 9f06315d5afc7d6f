use Rattle.std.proofs.Common.{◌≡◌, ◌+◌, ◌^◌, ◌<◌, ◌≤◌, ℕ, List, map, take, refl, ap, ◌∙◌, arith}
use Rattle.std.proofs.lemmas.List.{take_all}
use Rattle.hll_meaning.specs.Kinds.{cells}
use Rattle.hll_meaning.specs.Types.{kind_of}
use Rattle.hll_types.specs.declared.variables.Variable.{Variable}
use Rattle.hll_types.specs.Measures.{capped}
use Rattle.dependence.proofs.DefinedCells.{count_all}
use Rattle.cell_layout.specs.Starts.{starts_from}
use Rattle.cell_layout.proofs.HeldNumbers.{small_held}
use Rattle.cell_layout.proofs.KindPairs.{kind_pair}
use Rattle.cell_layout.proofs.VariableStarts.{room, start_moved, start_pushed}
use Rattle.cell_layout.proofs.layout.Layout.new.Goals as goal

few_held : (before own : ℕ) → before + own ≤ 100000 → capped own ≡ own
few_held before own few = small_held own (omega arith)

fits : (start before count own : ℕ) → start ≡ before → count ≡ capped own → before + own ≤ 100000 → start + count < 2 ^ 64
fits start before count own is counted few =
    let same : count ≡ own = counted ∙ few_held before own few in
    omega arith

pub loop-variable-init : goal.loop-variable-init
loop-variable-init c = record { starts = c.new-starts.ensures.items; start = refl }

pub overflow_add-start : goal.overflow_add-start
overflow_add-start c =
    let vs = c.variables-variables.result.now in
    let v = c.variable-item.result in
    let free = room kind_pair c.args.checked.now vs c.loop-variable.variable-index v c.model-model.ensures.well c.variables-variables.ensures.kinds c.loop-variable-test.true c.variable-item.is in
    record {
      fits = fits c.loop-variable.start (count_all (map kind_pair (take c.loop-variable.variable-index vs))) c.cells_of_type-start.result (cells (kind_of v.ty)) c.loop-variable.invariant.start c.cells_of_type-start.ensures free;
    }

pub loop-variable-preserved : goal.loop-variable-preserved
loop-variable-preserved c =
    let vs = c.variables-variables.result.now in
    let i = c.loop-variable.variable-index in
    let v = c.variable-item.result in
    let inv = c.loop-variable.invariant in
    let free = room kind_pair c.args.checked.now vs i v c.model-model.ensures.well c.variables-variables.ensures.kinds c.loop-variable-test.true c.variable-item.is in
    record {
      starts = start_pushed kind_pair vs i v c.loop-variable.starts.items c.push.new.self.items c.loop-variable.start c.loop-variable-test.true c.variable-item.is inv.starts inv.start c.in_ok-push.ensures.items;
      start = start_moved kind_pair vs i v c.loop-variable.start c.cells_of_type-start.result c.loop-variable-test.true c.variable-item.is inv.start (c.cells_of_type-start.ensures ∙ few_held (count_all (map kind_pair (take i vs))) (cells (kind_of v.ty)) free);
    }

pub invariant_of-result : goal.invariant_of-result
invariant_of-result c =
    let vs = c.variables-variables.result.now in
    let all = take_all c.loop-variable.variable-index vs c.loop-variable-test.false in
    record {
      well = c.model-model.ensures.well;
      spelled = c.model-model.ensures.spelled;
      starts_are = c.loop-variable.invariant.starts ∙ ap (λ (xs : List Variable). starts_from 0 (map kind_pair xs)) all ∙ ap (starts_from 0) c.variables-variables.ensures.kinds;
    }
