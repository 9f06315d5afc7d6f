use Rattle.std.proofs.Common.{◌≡◌, ◌++◌, map}
use Rattle.miter.specs.Joining.{settled}
use Rattle.miter.proofs.making.push_settled.Given as goal

abbrev pub invariant-loop-signal : goal.invariant-loop-signal
invariant-loop-signal l = l.signals.items ≡ l.fn.signals.items ++ map (settled l.places) l.yielded
