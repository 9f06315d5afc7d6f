use Rattle.std.proofs.Common.{◌<◌, ℕ, List, sym, subst, length}
use Rattle.std.specs.Prelude.{All}
use Rattle.graphs.specs.Graphs.{HasArrow}
use Rattle.graphs.specs.Spreading.{HasSource, AreDistances}
use Rattle.graphs.proofs.PathLemmas.{same_distances}
use Rattle.graphs.proofs.Arranging.{sources_nodes}
use Rattle.graphs.proofs.arrangement.reported_cycle.Goals as goal

pub distances_to-requires-clause-nodes : goal.distances_to-requires-clause-nodes
distances_to-requires-clause-nodes c =
    let sources = c.in_ok-sources.sources.items in
    subst (λ (lists : List (List ℕ)). All (All (λ a. a < length lists)) lists) (sym c.deref.ensures.value)
    (sources_nodes c.args.graph.now.rows sources c.in_ok-sources.ensures.size c.in_ok-sources.ensures.same)

pub walk-requires-clause-distances : goal.walk-requires-clause-distances
walk-requires-clause-distances c =
    let rows = c.args.graph.now.rows in
    let sources = c.in_ok-sources.sources.items in
    subst (AreDistances (HasArrow rows) c.args.start) (sym c.deref-2.ensures.value)
    (same_distances (HasArrow rows) (HasSource sources) c.in_ok-sources.ensures.same c.args.start c.in_ok-distances.distances.items
    (subst (λ (lists : List (List ℕ)). AreDistances (HasSource lists) c.args.start c.in_ok-distances.distances.items) c.deref.ensures.value c.in_ok-distances.ensures.distances))
