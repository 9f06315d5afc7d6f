-- What a search that has finished all nodes shows.
use Rattle.std.proofs.Common.{◌≡◌, ◌<◌, ◌≤◌, [], ℕ, List, Some, None, length, get_or, sym, subst, ◌∙◌, arith}
use Rattle.std.specs.Prelude.{◌≢◌, ◌↔◌, All, Contains}
use Rattle.std.proofs.lemmas.List.{get_or_default}
use Rattle.std.proofs.lemmas.List.Elements.{Contains-get_or}
use Rattle.graphs.specs.Graphs.{row, HasArrow}
use Rattle.graphs.specs.Paths.{Reaches}
use Rattle.graphs.specs.Orders.{IsOrder}
use Rattle.graphs.specs.Cycles.{IsStart}
use Rattle.graphs.specs.Searches.{Searching, IsSearch}
use Rattle.graphs.specs.Spreading.{HasSource}
use Rattle.graphs.specs.declared.search.Place.{Place}
use Rattle.graphs.specs.declared.search.Place.TheVariants.{Unseen, Finished}
use Rattle.graphs.proofs.Placing.{marked_node}
use Rattle.graphs.proofs.Spread.{arrow_source, same_some}

-- the finished nodes are nodes
ordered_node : (rows : List (List ℕ)) (s : Searching) → IsSearch rows (λ b. ⊥) s → (v : ℕ) → Contains s.order v → v < length rows
ordered_node rows s search v there = subst (λ (k : ℕ). v < k) search.size (marked_node s.places v (marked (search.placed.order_at v there)))
  where
    marked : {p : Place} → p ≡ Finished → p ≢ Unseen
    marked done unseen = clash (sym done ∙ unseen)
      where
        clash : Finished ≡ Unseen → ⊥
        clash e = cc

-- where none lies on a cycle they are in order
pub search_order : (rows : List (List ℕ)) (s : Searching) → IsSearch rows (λ b. ⊥) s → ((v : ℕ) → v < length rows → Contains s.order v) → s.start ≡ None → IsOrder (HasArrow rows) (length rows) s.order
search_order rows s search all none = record {
  nodes = λ k d within. ordered_node rows s search (get_or s.order k d) (Contains-get_or s.order k d within);
  all = all;
  once = search.placed.once;
  after = search.answered.after none;
}

-- else the start is the least one that does
pub search_start : (rows : List (List ℕ)) (s : Searching) (m : ℕ) → IsSearch rows (λ b. ⊥) s → ((v : ℕ) → v < length rows → Contains s.order v) → s.start ≡ Some m → IsStart (HasArrow rows) (length rows) m
search_start rows s m search all is = record {
  node = ordered_node rows s search m found.0;
  cyclic = found.1;
  least = least;
}
  where
    found : Contains s.order m × Reaches (HasArrow rows) m m
    found = search.answered.cyclic m is

    least : (a : ℕ) → Reaches (HasArrow rows) a a → m ≤ a
    least a (k, (b, arrow, path)) =
        let low = search.answered.least a (all a (arrow_source rows a b arrow)) (k, (b, arrow, path)) in
        let same : m ≡ low.0 = same_some is low.1 in
        let less : low.0 ≤ a = low.2 in
        omega (arith, same, less)

-- the sources of all nodes are nodes
pub sources_nodes : (rows sources : List (List ℕ)) → length sources ≡ length rows → ((a b : ℕ) → HasArrow rows a b ↔ HasSource sources a b) → All (All (λ a. a < length sources)) sources
sources_nodes rows sources size same k d within k' d' within' =
    let is : get_or sources k d ≡ row sources k = get_or_default sources k d [] within in
    let a = get_or (get_or sources k d) k' d' in
    let there : HasSource sources a k = subst (λ (xs : List ℕ). Contains xs a) is (Contains-get_or (get_or sources k d) k' d' within') in
    subst (λ (n : ℕ). a < n) (sym size) (arrow_source rows a k ((same a k).1 there))
