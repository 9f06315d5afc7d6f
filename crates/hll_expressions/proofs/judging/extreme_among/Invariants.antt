use Rattle.std.proofs.Common.{take}
use Rattle.hll_meaning.specs.Types.{ends}
use Rattle.hll_expressions.proofs.Extremes.{SoFar}
use Rattle.hll_expressions.proofs.judging.extreme_among.Given as goal

abbrev pub invariant-loop-given : goal.invariant-loop-given
invariant-loop-given l = SoFar l.greatest l.first (take l.given-index l.others) (ends l.range) l.number
