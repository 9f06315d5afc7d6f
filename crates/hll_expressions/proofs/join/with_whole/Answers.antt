use Rattle.std.proofs.Common.{refl}
use Rattle.intervals.specs.Rules.{hull}
use Rattle.hll_meaning.specs.Types.{ends}
use Rattle.hll_expressions.proofs.KindForms.{kind_of_int, wide_so}
use Rattle.hll_expressions.proofs.join.with_whole.Goals as goal

-- src/join.rt:59:1
pub returns-in-None : goal.returns-in-None
returns-in-None c = rw c.in-Int.is (rw (kind_of_int c.args.range) (rw (kind_of_int c.in-Int.other) (rw (wide_so (hull (ends c.args.range) (ends c.in-Int.other)) c.in-None.ensures) refl)))
