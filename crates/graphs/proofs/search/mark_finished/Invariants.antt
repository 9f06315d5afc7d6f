use Rattle.std.proofs.Common.{take}
use Rattle.graphs.specs.Searches.{AreFinished}
use Rattle.graphs.proofs.search.mark_finished.Given as goal

abbrev pub invariant-loop-node : goal.invariant-loop-node
invariant-loop-node l = AreFinished l.initial.places.items l.places.items (take l.node-index l.nodes)
