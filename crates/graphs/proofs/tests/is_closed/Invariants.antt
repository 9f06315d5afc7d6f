use Rattle.std.proofs.Common.{◌<◌, ℕ, length}
use Rattle.std.specs.Prelude.{All}
use Rattle.graphs.specs.Graphs.{row}
use Rattle.graphs.proofs.tests.is_closed.Given as goal

abbrev pub invariant-loop-node : goal.invariant-loop-node
invariant-loop-node l = (a : ℕ) → a < l.node → All (λ b. b < length l.graph.rows) (row l.graph.rows a)
