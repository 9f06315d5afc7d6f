use Rattle.std.proofs.Common.{map, sym}
use Rattle.std.proofs.lemmas.Result.{err_from_is_err_and}
use Rattle.hll_meaning.specs.Fitting.{parts}
use Rattle.hll_meaning.specs.Types.{kind_of}
use Rattle.hll_expressions.specs.Described.{known}
use Rattle.hll_expressions.proofs.FitLemmas.{mapped_at, nothing_fitted, parts_go_on, parts_fail, parts_run_out}
use Rattle.hll_expressions.proofs.GivenLemmas.{fits_whole, judged_as, group_on_cell, group_of_other, group_judged, choice_judged, branch_goes_on, branch_refused, branches_end, parts_done}
use Rattle.hll_expressions.proofs.given.+fitting.Goals as goal

pub fit-returns-in_err-refuse_if-in-Group : goal.fit-returns-in_err-refuse_if-in-Group
fit-returns-in_err-refuse_if-in-Group t c =
    let p = err_from_is_err_and c.from_residual.result c.from_residual.ensures.1 in
    rw (p.1, p.2) (group_on_cell c.args.given.now c.in-Group.at c.in-Group.parts (kind_of c.args.wanted.now) c.is_scalar.result c.in_err-refuse_if-in-Group.field-0.0 c.in-Group.is c.is_scalar.ensures c.in_err-refuse_if-in-Group.ensures.0 c.in_err-refuse_if-in-Group.ensures.1)

pub fit-returns-in_err-refuse_if-in-Group-2 : goal.fit-returns-in_err-refuse_if-in-Group-2
fit-returns-in_err-refuse_if-in-Group-2 t c =
    let p = err_from_is_err_and c.from_residual-in_err-refuse_if-in-Group-2.result c.from_residual-in_err-refuse_if-in-Group-2.ensures.1 in
    rw (p.1, p.2) (group_of_other c.args.given.now c.in-Group.at c.in-Group.parts (kind_of c.args.wanted.now) c.is_scalar.result c.count.result c.len.result (c.in_err-refuse_if-in-Group-2).field-0.0 c.in-Group.is c.is_scalar.ensures c.in_ok-refuse_if-in-Group.ensures c.count.ensures c.len.ensures
    (c.in_err-refuse_if-in-Group-2).ensures.0 (c.in_err-refuse_if-in-Group-2).ensures.1)

pub fit-returns-in-Whole : goal.fit-returns-in-Whole
fit-returns-in-Whole t c = judged_as _ _ c.wants.result (fits_whole c.args.given.now c.in-Whole.at c.in-Whole.kind _ (kind_of c.args.wanted.now) c.in-Whole.is) c.wants.ensures

pub fit-returns-in_ok-refuse_if-in-Group-2 : goal.fit-returns-in_ok-refuse_if-in-Group-2
fit-returns-in_ok-refuse_if-in-Group-2 t c =
    group_judged c.args.given.now c.in-Group.at c.in-Group.parts c.as_slice.result.now (kind_of c.args.wanted.now) c.is_scalar.result c.count.result c.len.result c.fit_parts.result c.in-Group.is c.is_scalar.ensures c.in_ok-refuse_if-in-Group.ensures c.count.ensures c.len.ensures
    (c.in_ok-refuse_if-in-Group-2).ensures c.as_slice.ensures c.fit_parts.ensures

pub fit-returns-in-Choice : goal.fit-returns-in-Choice
fit-returns-in-Choice t c = choice_judged c.args.given.now c.in-Choice.at c.in-Choice.kind c.in-Choice.branches c.as_slice-in-Choice.result.now (kind_of c.args.wanted.now) c.fit_branches.result c.in-Choice.is c.as_slice-in-Choice.ensures c.fit_branches.ensures

pub fit_branches-returns-in_err-fit : goal.fit_branches-returns-in_err-fit
fit_branches-returns-in_err-fit t c =
    let p = err_from_is_err_and c.from_residual.result c.from_residual.ensures.1 in
    rw (p.1, p.2) (branch_refused (kind_of c.args.wanted.now) c.args.branches.now c.loop-given.given-index c.given-item.result c.in_err-fit.field-0.0 c.loop-given-test.true c.given-item.is c.loop-given.invariant c.in_err-fit.ensures)

pub fit_branches-loop-given-preserved : goal.fit_branches-loop-given-preserved
fit_branches-loop-given-preserved t c = branch_goes_on (kind_of c.args.wanted.now) c.args.branches.now c.loop-given.given-index c.given-item.result c.loop-given-test.true c.given-item.is c.loop-given.invariant c.in_ok-fit.ensures

pub fit_branches-returns : goal.fit_branches-returns
fit_branches-returns t c = branches_end (kind_of c.args.wanted.now) c.args.branches.now c.loop-given.given-index c.loop-given-test.false c.loop-given.invariant

pub fit_parts-loop-place-init : goal.fit_parts-loop-place-init
fit_parts-loop-place-init t c = nothing_fitted (map known c.args.parts.now) (parts (kind_of c.args.wanted.now))

pub fit_parts-returns-in_err-fit-in-Some : goal.fit_parts-returns-in_err-fit-in-Some
fit_parts-returns-in_err-fit-in-Some t c =
    let p = err_from_is_err_and c.from_residual.result c.from_residual.ensures.1 in
    rw (p.1, p.2) (parts_fail (map known c.args.parts.now) (parts (kind_of c.args.wanted.now)) c.loop-place.place (known c.index-parts-place.result) (kind_of c.in-Some.wanted.now) c.in_err-fit-in-Some.field-0.0
    (mapped_at known c.args.parts.now c.loop-place.place c.index-parts-place.result c.loop-place-test.true c.index-parts-place.is) (sym c.in-Some.ensures) c.loop-place.invariant c.in_err-fit-in-Some.ensures)

pub fit_parts-returns-in-None : goal.fit_parts-returns-in-None
fit_parts-returns-in-None t c = parts_run_out (map known c.args.parts.now) (parts (kind_of c.args.wanted.now)) c.loop-place.place (sym c.in-None.ensures) c.loop-place.invariant

pub fit_parts-loop-place-preserved : goal.fit_parts-loop-place-preserved
fit_parts-loop-place-preserved t c =
    parts_go_on (map known c.args.parts.now) (parts (kind_of c.args.wanted.now)) c.loop-place.place (known c.index-parts-place.result) (kind_of c.in-Some.wanted.now)
    (mapped_at known c.args.parts.now c.loop-place.place c.index-parts-place.result c.loop-place-test.true c.index-parts-place.is) (sym c.in-Some.ensures) c.loop-place.invariant c.in_ok-fit-in-Some.ensures

pub fit_parts-returns : goal.fit_parts-returns
fit_parts-returns t c = parts_done c.args.parts.now (parts (kind_of c.args.wanted.now)) c.loop-place.place c.loop-place-test.false c.loop-place.invariant
