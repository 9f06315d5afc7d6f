use Rattle.std.proofs.Common.{take}
use Rattle.miter.specs.Joining.{AreGates}
use Rattle.miter.proofs.gates.gates_of.Given as goal

abbrev pub invariant-loop-number : goal.invariant-loop-number
invariant-loop-number l = AreGates (take l.number l.signals) l.gates
