use Rattle.std.proofs.Common.{◌≡◌, ◌<◌, ℕ, length}
use Rattle.std.specs.Prelude.{◌↔◌}
use Rattle.graphs.specs.Graphs.{HasArrow}
use Rattle.graphs.specs.Spreading.{HasSource}
use Rattle.graphs.proofs.distances.sources.Given as goal

abbrev pub invariant-loop-node : goal.invariant-loop-node
invariant-loop-node l = record {
  size : length l.sources.items ≡ length l.graph.rows;
  same : (a b : ℕ) → ((a < l.node) × HasArrow l.graph.rows a b) ↔ HasSource l.sources.items a b;
}
