use Rattle.std.proofs.Common.{◌≡◌, ◌<◌, ◌++◌, List, vec_len}
use Rattle.std.specs.Prelude.{All}
use Rattle.graphs.specs.declared.search.Segment.{Segment}
use Rattle.graphs.proofs.search.join.Given as goal

abbrev pub invariant-loop-last : goal.invariant-loop-last
invariant-loop-last l = (removed : List Segment) × (l.initial.segments.items ≡ l.segments.items ++ removed) × All (λ m. l.place < m.nodes) removed

abbrev pub decreases-loop-last : goal.decreases-loop-last
decreases-loop-last l = vec_len l.segments
