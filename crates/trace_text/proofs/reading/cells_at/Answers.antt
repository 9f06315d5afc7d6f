use Rattle.std.proofs.Common.{◌≡◌, ℤ, List, [], ◌∷◌, ◌++◌, map, length, slice_get, sym, ap, subst, ◌∙◌, arith, length-append}
use Rattle.std.proofs.lemmas.List.{length-map}
use Rattle.hll_meaning.specs.Declarations.{names}
use Rattle.trace_text.specs.Faults.{Stand}
use Rattle.cell_columns.specs.Columns.{cell_of}
use Rattle.trace_text.proofs.SignedNumbers.{short_passed, values_short}
use Rattle.trace_text.proofs.LineFronts.{cells_wrong, column_at, match_err, stand_more, stand_none}
use Rattle.trace_text.proofs.reading.cells_at.Goals as goal

pub loop-column-init : goal.loop-column-init
loop-column-init c =
    let all = names c.args.checked.now in
    (subst (λ (xs : List ℤ). Stand all (map cell_of c.args.columns.now) xs c.args.text.now c.args.text.now) (sym c.new-values.ensures.items) (stand_none all (map cell_of c.args.columns.now) c.args.text.now), ap length c.new-values.ensures.items)

pub loop-column-preserved : goal.loop-column-preserved
loop-column-preserved c =
    let all = names c.args.checked.now in
    let cells = map cell_of c.args.columns.now in
    let column = c.column-item.result in
    let values = c.loop-column.values.items in
    let read = c.in_ok-value.ensures in
    let x = c.in_ok-value.value in
    let next = ap (slice_get cells) c.loop-column.invariant.1 ∙ column_at c.args.columns.now c.loop-column.column-index column c.loop-column-test.true c.column-item.is in
    let more = stand_more all cells values c.args.text.now c.loop-column.rest.now read.value c.in_ok-value.further.now (cell_of column) x c.loop-column.invariant.0 next read.due read.has in
    let same : c.push.new.self.items ≡ values ++ x ∷ [] = c.in_ok-push.ensures.items ∙ ap (λ (y : ℤ). values ++ y ∷ []) (short_passed x (values_short column.values x read.has.value)) in (
      subst (λ (xs : List ℤ). Stand all cells xs c.args.text.now c.in_ok-value.further.now) (sym same) more,
      omega (arith, ap length same, length-append values (x ∷ []), c.loop-column.invariant.1),
    )

pub returns : goal.returns
returns c = record {
  stand = c.loop-column.invariant.0;
  count = omega (arith, c.loop-column.invariant.1, length-map c.args.columns.now cell_of, c.loop-column-test.false, c.loop-column.auto.column-index-end);
}

pub returns-in_err-value : goal.returns-in_err-value
returns-in_err-value c =
    let cells = map cell_of c.args.columns.now in
    let column = c.column-item.result in
    let next = ap (slice_get cells) c.loop-column.invariant.1 ∙ column_at c.args.columns.now c.loop-column.column-index column c.loop-column-test.true c.column-item.is in
    match_err _ _ _ _ c.from_residual.ensures.1
    (cells_wrong (names c.args.checked.now) cells c.loop-column.values.items c.args.text.now c.loop-column.rest.now (cell_of column) c.in_err-value.field-0.0 c.loop-column.invariant.0 next c.in_err-value.ensures)
