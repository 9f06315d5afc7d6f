use Rattle.graphs.specs.Graphs.{HasArrow}
use Rattle.graphs.specs.Spreading.{IsWalked, left}
use Rattle.graphs.proofs.cycle.walk.Given as goal

abbrev pub invariant-loop-after : goal.invariant-loop-after
invariant-loop-after l = IsWalked (HasArrow l.graph.rows) l.start l.cells.items l.after

abbrev pub decreases-loop-after : goal.decreases-loop-after
decreases-loop-after l = left l.distances l.after
