use Rattle.std.proofs.Common.{take}
use Rattle.graphs.specs.Spreading.{IsBest}
use Rattle.graphs.proofs.cycle.next.Given as goal

abbrev pub invariant-loop-node : goal.invariant-loop-node
invariant-loop-node l = IsBest (take l.node-index l.row) l.distances l.best
