use Rattle.std.proofs.Common.{◌≡◌, ◌≢◌, ◌<◌, ℕ, []}
use Rattle.graphs.specs.Searches.{shown, place, IsSearch}
use Rattle.graphs.specs.declared.search.Place.TheVariants.{Unseen}
use Rattle.graphs.proofs.search.Search.run.Given as goal

abbrev pub invariant-loop-root : goal.invariant-loop-root
invariant-loop-root l = record {
  search : IsSearch l.graph.rows (λ b. ⊥) (shown l.search);
  none : (shown l.search).path ≡ [];
  seen : (v : ℕ) → v < l.root → place (shown l.search).places v ≢ Unseen;
}
