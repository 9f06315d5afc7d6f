use Rattle.std.proofs.Common.{◌≢◌, ℕ}
use Rattle.graphs.specs.Searches.{shown, place, effort, IsSearch}
use Rattle.graphs.specs.declared.search.Place.TheVariants.{Unseen}
use Rattle.graphs.proofs.search.Search.finish.Given as goal

abbrev pub invariant-loop-last : goal.invariant-loop-last
invariant-loop-last l = record {
  search : IsSearch l.graph.rows (λ b. ⊥) (shown l.self);
  root : place (shown l.self).places l.root ≢ Unseen;
  seen : (v : ℕ) → place (shown l.fn.self).places v ≢ Unseen → place (shown l.self).places v ≢ Unseen;
}

abbrev pub decreases-loop-last : goal.decreases-loop-last
decreases-loop-last l = effort l.graph.rows (shown l.self)
