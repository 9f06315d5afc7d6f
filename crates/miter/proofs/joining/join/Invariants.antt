use Rattle.std.proofs.Common.{take}
use Rattle.miter.specs.Joining.{Joins}
use Rattle.miter.proofs.joining.join.Given as goal

abbrev pub invariant-loop-signal : goal.invariant-loop-signal
invariant-loop-signal l = Joins l.a (take l.signal-index l.b) l.joining
