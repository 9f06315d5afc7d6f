use Rattle.std.proofs.Common.{rules, ◌≡◌, ◌<◌, ◌≤◌, length, arith, Err}
use Rattle.hll_meaning.specs.Types.{ends}
use Rattle.hll_expressions.proofs.Extremes.{fails_first, fails_at, ends_so}
use Rattle.hll_expressions.proofs.judging.extreme_among.Goals as goal

pub returns-in_err-range : goal.returns-in_err-range
returns-in_err-range c =
    let f = c.in_err-range.field-0.0 in
    let is : c.from_residual.result ≡ Err f = search rules in
    rw is (fails_first c.args.greatest c.args.at c.args.first.now c.args.others.now f c.in_err-range.ensures)

pub returns-in_err-own : goal.returns-in_err-own
returns-in_err-own c =
    let f = c.in_err-own.field-0.0 in
    let is : c.from_residual-in_err-own.result ≡ Err f = search rules in
    let lt : c.loop-given.given-index < length c.args.others.now = omega arith in
    rw is
    (fails_at c.args.greatest c.args.at c.args.first.now c.args.others.now c.loop-given.given-index c.given-item.result (ends c.loop-given.range) c.loop-given.number f lt c.given-item.is c.loop-given.invariant c.in_err-own.ensures)

pub returns : goal.returns
returns c =
    let le : length c.args.others.now ≤ c.loop-given.given-index = omega arith in
    ends_so c.args.greatest c.args.at c.args.first.now c.args.others.now c.loop-given.given-index c.loop-given.range c.loop-given.number c.whole_number.result le c.loop-given.invariant c.whole_number.ensures
