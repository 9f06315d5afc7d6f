use Rattle.std.proofs.Common.{take}
use Rattle.miter.specs.Joining.{AreNumbers}
use Rattle.miter.proofs.names.numbers_of.Given as goal

abbrev pub invariant-loop-number : goal.invariant-loop-number
invariant-loop-number l = AreNumbers (take l.number l.signals) l.numbers
