-- The walk along the reported cycle.
use Rattle.std.proofs.Common.{◌≡◌, ◌<◌, ◌≤◌, ◌++◌, ◌∷◌, [], ◌⊎◌, ℕ, zero, suc, List, Option, Some, None, inl, inr, refl, sym, ap, subst, ◌∙◌, arith}
use Rattle.std.specs.Prelude.{◌≢◌, Contains, MatchOption, unwrap_or}
use Rattle.std.proofs.lemmas.List.{append_assoc, append-nil}
use Rattle.std.proofs.lemmas.List.Elements.{Contains-push, Contains-push_cases, Contains-append_left}
use Rattle.graphs.specs.Graphs.{row, HasArrow}
use Rattle.graphs.specs.Paths.{Path, Reaches, IsDistance}
use Rattle.graphs.specs.Cycles.{IsStart, IsNext, ComesBack, IsReportedCycle}
use Rattle.graphs.specs.Parts.{Leads}
use Rattle.graphs.specs.Spreading.{distance, AreDistances, IsNearest, IsBest, IsFollowing, IsWalked, left}
use Rattle.graphs.specs.declared.cycle.Near.{Near}
use Rattle.graphs.proofs.Lists.{no_member}
use Rattle.graphs.proofs.PathLemmas.{one_distance}
use Rattle.graphs.proofs.Spread.{same_some, some_not_none}

-- of no targets there is no best
pub best_none : (known : List (Option ℕ)) → IsBest [] known None
best_none known b there = absurd (no_member b there)

-- a target without a distance changes nothing
pub best_past : (targets : List ℕ) (known : List (Option ℕ)) (node : ℕ) (best : Option Near) → distance known node ≡ None → IsBest targets known best → IsBest (targets ++ node ∷ []) known best
best_past targets known node None none best = λ b there. elim (Contains-push_cases targets node b there) [ inl before ↦ best b before | inr same ↦ ap (distance known) (sym same) ∙ none ]
best_past targets known node (Some n) none best = record {
  target = Contains-append_left targets (node ∷ []) n.node best.target;
  is = best.is;
  nearest = λ b e there is. elim (Contains-push_cases targets node b there) [ inl before ↦ best.nearest b e before is | inr same ↦ absurd (some_not_none is (ap (distance known) (sym same) ∙ none)) ];
  first = λ b there is. elim (Contains-push_cases targets node b there) [ inl before ↦ best.first b before is | inr same ↦ absurd (some_not_none is (ap (distance known) (sym same) ∙ none)) ];
}

-- a target with a distance is the first
pub best_only : (targets : List ℕ) (known : List (Option ℕ)) (node d : ℕ) → distance known node ≡ Some d → IsBest targets known None → IsBest (targets ++ node ∷ []) known (Some (record { node = node; distance = d }))
best_only targets known node d is none = record {
  target = Contains-push targets node;
  is = is;
  nearest = λ b e there is_b. elim (Contains-push_cases targets node b there) [
    | inl before ↦ absurd (some_not_none is_b (none b before))
    | inr same ↦ (let equal : d ≡ e = same_some is (ap (distance known) same ∙ is_b) in omega (arith, equal))
  ];
  first = λ b there is_b. elim (Contains-push_cases targets node b there) [
    | inl before ↦ absurd (some_not_none is_b (none b before))
    | inr same ↦ omega (arith, same)
  ];
}

-- a target that is nearer, or as near and less
pub best_takes : (targets : List ℕ) (known : List (Option ℕ)) (node d : ℕ) (n : Near) → distance known node ≡ Some d → IsBest targets known (Some n) → (d < n.distance) ⊎ ((d ≡ n.distance) × (node < n.node)) → IsBest (targets ++ node ∷ []) known (Some (record { node = node; distance = d }))
best_takes targets known node d n is best better = record {
  target = Contains-push targets node;
  is = is;
  nearest = λ b e there is_b. elim (Contains-push_cases targets node b there) [
    | inl before ↦ (let low : n.distance ≤ e = best.nearest b e before is_b in nearer e low better)
    | inr same ↦ (let equal : d ≡ e = same_some is (ap (distance known) same ∙ is_b) in omega (arith, equal))
  ];
  first = λ b there is_b. elim (Contains-push_cases targets node b there) [
    | inl before ↦ lesser b before is_b better
    | inr same ↦ omega (arith, same)
  ];
}
  where
    nearer : (e : ℕ) → n.distance ≤ e → (d < n.distance) ⊎ ((d ≡ n.distance) × (node < n.node)) → d ≤ e
    nearer e low (inl less) = omega (arith, low, less)
    nearer e low (inr (same, less)) = omega (arith, low, same)

    lesser : (b : ℕ) → Contains targets b → distance known b ≡ Some d → (d < n.distance) ⊎ ((d ≡ n.distance) × (node < n.node)) → node ≤ b
    lesser b before is_b (inl less) = let low : n.distance ≤ d = best.nearest b d before is_b in absurd (omega (arith, low, less))
    lesser b before is_b (inr (same, less)) =
        let low : n.node ≤ b = best.first b before (is_b ∙ ap Some same) in
        omega (arith, low, less)

-- a target that is neither
pub best_keeps : (targets : List ℕ) (known : List (Option ℕ)) (node d : ℕ) (n : Near) → distance known node ≡ Some d → IsBest targets known (Some n) → (n.distance < d) ⊎ ((n.distance ≡ d) × (n.node ≤ node)) → IsBest (targets ++ node ∷ []) known (Some n)
best_keeps targets known node d n is best worse = record {
  target = Contains-append_left targets (node ∷ []) n.node best.target;
  is = best.is;
  nearest = λ b e there is_b. elim (Contains-push_cases targets node b there) [
    | inl before ↦ best.nearest b e before is_b
    | inr same ↦ (let equal : d ≡ e = same_some is (ap (distance known) same ∙ is_b) in nearer e equal worse)
  ];
  first = λ b there is_b. elim (Contains-push_cases targets node b there) [
    | inl before ↦ best.first b before is_b
    | inr same ↦ (let equal : d ≡ n.distance = same_some is (ap (distance known) same ∙ is_b) in lesser b same equal worse)
  ];
}
  where
    nearer : (e : ℕ) → d ≡ e → (n.distance < d) ⊎ ((n.distance ≡ d) × (n.node ≤ node)) → n.distance ≤ e
    nearer e equal (inl less) = omega (arith, equal, less)
    nearer e equal (inr (same, low)) = omega (arith, equal, same)

    lesser : (b : ℕ) → node ≡ b → d ≡ n.distance → (n.distance < d) ⊎ ((n.distance ≡ d) × (n.node ≤ node)) → n.node ≤ b
    lesser b same equal (inl less) = absurd (omega (arith, equal, less))
    lesser b same equal (inr (is', low)) = omega (arith, same, low)

module _ (rows : List (List ℕ)) (start : ℕ) (known : List (Option ℕ)) (all : AreDistances (HasArrow rows) start known) where
  -- a known distance is one
  is_distance : (v d : ℕ) → distance known v ≡ Some d → IsDistance (HasArrow rows) v start d
  is_distance v d is = subst (λ (o : Option ℕ). MatchOption o (¬ (Leads (HasArrow rows) v start)) (λ d. IsDistance (HasArrow rows) v start d)) is (all v)

  -- and each distance is known
  known_distance : (v d : ℕ) → IsDistance (HasArrow rows) v start d → distance known v ≡ Some d
  known_distance v d is = by_known (distance known v) refl
    where
      by_known : (o : Option ℕ) → distance known v ≡ o → distance known v ≡ Some d
      by_known None none = absurd (subst (λ (o : Option ℕ). MatchOption o (¬ (Leads (HasArrow rows) v start)) (λ d. IsDistance (HasArrow rows) v start d)) none (all v) (d, is.path))
      by_known (Some e) some = some ∙ ap Some (one_distance (HasArrow rows) v start e d (is_distance v e some) is)

  -- the nearest of the targets of a node is the next
  nearest_next : (from node d : ℕ) → IsNearest (row rows from) known node d → IsNext (HasArrow rows) start from node
  nearest_next from node d best = record {
    arrow = best.target;
    distance = d;
    is_distance = is_distance node d best.is;
    nearest = λ b e arrow far. best.nearest b e arrow (known_distance b e far);
    first = λ b arrow far. best.first b arrow (known_distance b d far);
  }

  -- a node from which one arrow or more leads to the start has a next one
  pub following_next : (from m : ℕ) (next : Option ℕ) → HasArrow rows from m → Leads (HasArrow rows) m start → IsFollowing (row rows from) known next → MatchOption next ⊥ (λ n. IsNext (HasArrow rows) start from n)
  following_next from m None arrow way none = subst (λ (o : Option ℕ). MatchOption o (¬ (Leads (HasArrow rows) m start)) (λ d. IsDistance (HasArrow rows) m start d)) (none m arrow) (all m) way
  following_next from m (Some n) arrow way (d, best) = nearest_next from n d best

  -- the walk begins at the start
  pub walked_first : (n : ℕ) (next : Option ℕ) → IsStart (HasArrow rows) n start → IsFollowing (row rows start) known next → IsWalked (HasArrow rows) start (start ∷ []) next
  walked_first n next is_start follows = first is_start.cyclic
    where
      first : Reaches (HasArrow rows) start start → IsWalked (HasArrow rows) start (start ∷ []) next
      first (k, (m, arrow, path)) = record {
        rest = [];
        split = refl;
        last = start;
        is_next = following_next start m next arrow (k, path) follows;
        on = λ more back. back;
      }

  -- a node on the way back has a next one
  next_on : (last node : ℕ) (next : Option ℕ) → IsNext (HasArrow rows) start last node → node ≢ start → IsFollowing (row rows node) known next → MatchOption next ⊥ (λ n. IsNext (HasArrow rows) start node n)
  next_on last node next is_next differ follows = from is_next.distance is_next.is_distance.path
    where
      from : (d : ℕ) → Path (HasArrow rows) d node start → MatchOption next ⊥ (λ n. IsNext (HasArrow rows) start node n)
      from zero is = absurd (differ is)
      from (suc k) (m, arrow, path) = following_next node m next arrow (k, path) follows

  -- and goes on to a node that isn't the start
  pub walked_more : (cells : List ℕ) (node : ℕ) (next : Option ℕ) → IsWalked (HasArrow rows) start cells (Some node) → node ≢ start → IsFollowing (row rows node) known next → IsWalked (HasArrow rows) start (cells ++ node ∷ []) next
  walked_more cells node next w differ follows = record {
    rest = w.rest ++ node ∷ [];
    split = ap (λ (xs : List ℕ). xs ++ node ∷ []) w.split;
    last = node;
    is_next = next_on w.last node next w.is_next differ follows;
    on = λ more back. subst (ComesBack (HasArrow rows) start start) (sym (append_assoc w.rest (node ∷ []) more)) (w.on (node ∷ more) (w.is_next, differ, back));
  }

  -- until the next node is the start
  pub walked_end : (n : ℕ) (cells : List ℕ) → IsStart (HasArrow rows) n start → IsWalked (HasArrow rows) start cells (Some start) → IsReportedCycle (HasArrow rows) n cells
  walked_end n cells is_start w = subst (IsReportedCycle (HasArrow rows) n) (sym w.split)
      (is_start, subst (ComesBack (HasArrow rows) start start) (append-nil w.rest) (w.on [] w.is_next))

  -- each next node is nearer to the start than the one before
  pub walked_nearer : (cells : List ℕ) (node : ℕ) (next : Option ℕ) → IsWalked (HasArrow rows) start cells (Some node) → node ≢ start → IsFollowing (row rows node) known next → left known next < left known (Some node)
  walked_nearer cells node next w differ follows =
      let away = w.is_next.is_distance in
      let is = known_distance node w.is_next.distance away in
      subst (λ (o : Option ℕ). left known next < unwrap_or o 0) (sym is) (from next w.is_next.distance away.path (next_on w.last node next w.is_next differ follows))
    where
      from : (next : Option ℕ) (d : ℕ) → Path (HasArrow rows) d node start → MatchOption next ⊥ (λ n. IsNext (HasArrow rows) start node n) → left known next < d
      from next zero is following = absurd (differ is)
      from None (suc k) path following = absurd following
      from (Some m) (suc k) (x, arrow, path) following = by_known (distance known x) refl
        where
          by_known : (o : Option ℕ) → distance known x ≡ o → left known (Some m) < suc k
          by_known None none = absurd (subst (λ (o : Option ℕ). MatchOption o (¬ (Leads (HasArrow rows) x start)) (λ d. IsDistance (HasArrow rows) x start d)) none (all x) (k, path))
          by_known (Some e) some =
              let far = is_distance x e some in
              let low : following.distance ≤ e = following.nearest x e arrow far in
              let short : e ≤ k = far.least k path in
              subst (λ (o : Option ℕ). unwrap_or o 0 < suc k) (sym (known_distance m following.distance following.is_distance)) (omega (arith, low, short))

  -- there always is a next node
  pub walked_none : (cells : List ℕ) → ¬ (IsWalked (HasArrow rows) start cells None)
  walked_none cells w = w.is_next
