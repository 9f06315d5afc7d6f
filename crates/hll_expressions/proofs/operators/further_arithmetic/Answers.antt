use Rattle.std.proofs.Common.{refl}
use Rattle.std.proofs.lemmas.Result.{err_from_is_err_and}
use Rattle.hll_expressions.proofs.FurtherLemmas.{left_no_whole, right_no_whole, zero_refused, wide_refused, arithmetic_further}
use Rattle.hll_expressions.proofs.operators.further_arithmetic.Goals as goal

pub returns-in_err-first : goal.returns-in_err-first
returns-in_err-first c =
    let p = err_from_is_err_and c.from_residual.result c.from_residual.ensures.1 in
    rw (p.1, p.2) (λ d l r same dl dr. left_no_whole d c.args.op c.args.at _ c.args.left.now l r c.in_err-first.field-0.0 c.requires dl c.in_err-first.ensures)

pub returns-in_err-second : goal.returns-in_err-second
returns-in_err-second c =
    let p = err_from_is_err_and c.from_residual-in_err-second.result c.from_residual-in_err-second.ensures.1 in
    rw (p.1, p.2) (λ d l r same dl dr. right_no_whole d c.args.op c.args.at c.args.needs_constant c.args.left.now c.args.right.now l r c.in_ok-first.first c.in_err-second.field-0.0 c.requires c.in_ok-first.ensures dl dr c.in_err-second.ensures)

pub returns-in_err-refuse_if : goal.returns-in_err-refuse_if
returns-in_err-refuse_if c =
    let p = err_from_is_err_and c.from_residual-in_err-refuse_if.result c.from_residual-in_err-refuse_if.ensures.1 in
    rw (p.1, p.2) (λ d l r same dl dr.
    zero_refused d c.args.op c.args.at c.args.needs_constant c.divides_by_zero-by_zero.result c.args.left.now c.args.right.now l r c.in_ok-first.first c.in_ok-second.second c.in_err-refuse_if.field-0.0
    (record { arithmetic = c.requires; left = c.in_ok-first.ensures; right = c.in_ok-second.ensures; of_left = dl; of_right = dr }) same (c.divides_by_zero-by_zero.ensures r dr) c.in_err-refuse_if.ensures.1)

pub returns-in-Some : goal.returns-in-Some
returns-in-Some c = λ d l r same dl dr.
    arithmetic_further d c.args.op c.args.at c.args.needs_constant c.divides_by_zero-by_zero.result c.args.left.now c.args.right.now _ l r c.in_ok-first.first c.in_ok-second.second c.range_of.result c.in-Some.range
    (record { arithmetic = c.requires; left = c.in_ok-first.ensures; right = c.in_ok-second.ensures; of_left = dl; of_right = dr }) same (c.divides_by_zero-by_zero.ensures r dr) c.in_ok-refuse_if.ensures c.in-Some.is c.range_of.ensures refl

pub returns-in-None : goal.returns-in-None
returns-in-None c = λ d l r same dl dr.
    wide_refused d c.args.op c.args.at c.args.needs_constant c.divides_by_zero-by_zero.result c.args.left.now c.args.right.now l r c.in_ok-first.first c.in_ok-second.second c.range_of.result c.fault.result
    (record { arithmetic = c.requires; left = c.in_ok-first.ensures; right = c.in_ok-second.ensures; of_left = dl; of_right = dr }) same (c.divides_by_zero-by_zero.ensures r dr) c.in_ok-refuse_if.ensures c.in-None.is c.range_of.ensures c.fault.ensures
