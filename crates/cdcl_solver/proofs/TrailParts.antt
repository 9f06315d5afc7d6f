-- Trails, their parts, and what they make false.
use Rattle.std.proofs.Common.{◌≡◌, ◌≢◌, ◌+◌, ◌<◌, ◌≤◌, ◌++◌, ◌∷◌, [], ◌⊎◌, inl, inr, ℕ, zero, suc, List, sym, ap, subst, ◌∙◌, length, get_or, take, drop, arith}
use Rattle.std.specs.Prelude.{ℤ, pos, negsuc, neg_ℤ, nat_abs, Contains}
use Rattle.std.proofs.Math.IntN.{neg_ℤ-neg_ℤ}
use Rattle.std.proofs.lemmas.List.{get_or-map, get_or-take, get_or_append_left, get_or_push, length-map, length_push, length-take-le, take-append-drop, take-append-le, take-take, take-map, take_all, map_push}
use Rattle.std.proofs.lemmas.List.Elements.{Contains-append_left, Contains-get_or}
use Rattle.cdcl_solver.specs.declared.trail.Assigned.{Assigned}
use Rattle.cdcl_solver.specs.declared.trail.Reason.TheVariants as reason
use Rattle.cdcl_solver.specs.Trails.{falses, IsReason, IsJustified, IsTrail}
use Rattle.cdcl_solver.proofs.Members.{IsWithin}

-- no literal is there together with its negation
abbrev pub IsConsistent : List ℤ → Type 0
IsConsistent taken = (l : ℤ) → Contains taken l → ¬ (Contains taken (neg_ℤ l))

-- the front of a list is within it
pub front_in : {X : Type 0} (k : ℕ) (xs : List X) → IsWithin (take k xs) xs
front_in k xs x h = subst (λ (ys : List _). Contains ys x) (take-append-drop k xs) (Contains-append_left (take k xs) (drop k xs) x h)

pub falses-take : (k : ℕ) (trail : List Assigned) → falses (take k trail) ≡ take k (falses trail)
falses-take k trail = sym (take-map (λ (a : Assigned). neg_ℤ a.literal) k trail)

pub falses_front : (k : ℕ) (trail : List Assigned) → IsWithin (falses (take k trail)) (falses trail)
falses_front k trail l h = front_in k (falses trail) l (subst (λ (ls : List ℤ). Contains ls l) (falses-take k trail) h)

pub falses_earlier : (j k : ℕ) (trail : List Assigned) → j ≤ k → IsWithin (falses (take j trail)) (falses (take k trail))
falses_earlier j k trail le l h =
    falses_front j (take k trail) l (subst (λ (ts : List Assigned). Contains (falses ts) l) (sym (take-take j k trail le)) h)

pub falses_push : (trail : List Assigned) (a : Assigned) → falses (trail ++ a ∷ []) ≡ falses trail ++ neg_ℤ a.literal ∷ []
falses_push trail a = map_push (λ (b : Assigned). neg_ℤ b.literal) trail a

-- what is false is so since some place of the trail
pub false_since : (trail : List Assigned) (l : ℤ) (d : Assigned) → Contains (falses trail) l → (k : ℕ) × (k < length trail) × (neg_ℤ (get_or trail k d).literal ≡ l)
false_since trail l d h =
    let low : h.0 < length trail = omega (arith, h.1, length-map trail (λ (a : Assigned). neg_ℤ a.literal)) in
    (h.0, low, sym (get_or-map (λ (a : Assigned). neg_ℤ a.literal) trail h.0 d l low) ∙ h.2)

pub false_at : (trail : List Assigned) (k : ℕ) (d : Assigned) → k < length trail → Contains (falses trail) (neg_ℤ (get_or trail k d).literal)
false_at trail k d low =
    subst (Contains (falses trail)) (get_or-map (λ (a : Assigned). neg_ℤ a.literal) trail k d (pos 0) low)
    (Contains-get_or (falses trail) k (pos 0) (omega (arith, low, length-map trail (λ (a : Assigned). neg_ℤ a.literal))))

-- what is false is so before a place after it
pub false_before : (trail : List Assigned) (j k : ℕ) (d : Assigned) → j < k → k ≤ length trail → Contains (falses (take k trail)) (neg_ℤ (get_or trail j d).literal)
false_before trail j k d less low =
    subst (λ (a : Assigned). Contains (falses (take k trail)) (neg_ℤ a.literal)) (get_or-take k trail j d less)
    (false_at (take k trail) j d (omega (arith, less, length-take-le k trail low)))

pub not_own_negation : (l : ℤ) → 1 ≤ nat_abs l → neg_ℤ l ≢ l
not_own_negation (pos zero) some e = absurd (omega (arith, some))
not_own_negation (pos (suc n)) some e = cc
not_own_negation (negsuc n) some e = cc

module _ (n : ℕ) (clauses : List (List ℤ)) (trail : List Assigned) (t : IsTrail n clauses trail) where
  -- no two literals of a trail are opposite, and no literal stands twice
  pub trail_opposite : (j k : ℕ) (d : Assigned) → j < length trail → k < length trail → neg_ℤ (get_or trail j d).literal ≡ (get_or trail k d).literal → ⊥
  trail_opposite j k d low_j low_k e = by_order (order j k)
    where
      order : (j k : ℕ) → (j < k) ⊎ ((k < j) ⊎ (j ≡ k))
      order j k = grind arith

      by_order : (j < k) ⊎ ((k < j) ⊎ (j ≡ k)) → ⊥
      by_order (inl less) = (t k d low_k).free.0 (subst (Contains (falses (take k trail))) e (false_before trail j k d less (omega (arith, low_k))))
      by_order (inr (inl more)) = (t j d low_j).free.0
          (subst (Contains (falses (take j trail))) (ap neg_ℤ (sym e) ∙ neg_ℤ-neg_ℤ (get_or trail j d).literal) (false_before trail k j d more (omega (arith, low_j))))
      by_order (inr (inr same)) = not_own_negation (get_or trail j d).literal (t j d low_j).in_range.some (e ∙ ap (λ (m : ℕ). (get_or trail m d).literal) (sym same))

  -- what a trail makes false is consistent
  pub trail_consistent : IsConsistent (falses trail)
  trail_consistent l here there =
      let d : Assigned = record { literal = pos 0; reason = reason.Decision } in
      let p = false_since trail l d here in
      let q = false_since trail (neg_ℤ l) d there in
      trail_opposite p.0 q.0 d p.1 q.1 (p.2 ∙ sym (neg_ℤ-neg_ℤ l) ∙ ap neg_ℤ (sym q.2) ∙ neg_ℤ-neg_ℤ (get_or trail q.0 d).literal)

  -- the front of a trail is one
  pub trail_front : (j : ℕ) → j ≤ length trail → IsTrail n clauses (take j trail)
  trail_front j low k d below =
      let less : k < j = omega (arith, below, length-take-le j trail low) in
      subst (λ (a : Assigned). IsJustified n clauses (falses (take k (take j trail))) a) (sym (get_or-take j trail k d less))
      (subst (λ (ts : List Assigned). IsJustified n clauses (falses ts) (get_or trail k d)) (sym (take-take k j trail (omega (arith, less)))) (t k d (omega (arith, less, low))))

  -- a trail with one more literal
  pub trail_push : (a : Assigned) → IsJustified n clauses (falses trail) a → IsTrail n clauses (trail ++ a ∷ [])
  trail_push a j k d below = elim (place k (length trail) (omega (arith, below, length_push trail a))) [
    | inl before ↦
        subst (λ (b : Assigned). IsJustified n clauses (falses (take k (trail ++ a ∷ []))) b) (sym (get_or_append_left trail (a ∷ []) d k before))
        (subst (λ (ts : List Assigned). IsJustified n clauses (falses ts) (get_or trail k d)) (sym (take-append-le k trail (a ∷ []) (omega (arith, before)))) (t k d before))
    | inr last ↦
        subst (λ (b : Assigned). IsJustified n clauses (falses (take k (trail ++ a ∷ []))) b) (sym (get_or_push trail a d k (sym last)))
        (subst (λ (ts : List Assigned). IsJustified n clauses (falses ts) a)
        (sym (take-append-le k trail (a ∷ []) (omega (arith, last)) ∙ take_all k trail (omega (arith, last)))) j)
  ]
    where
      place : (n k : ℕ) → n < k + 1 → (n < k) ⊎ (n ≡ k)
      place n k h = grind arith

  -- a trail stands over other clauses where its reasons do
  pub trail_changed : (others : List (List ℤ))
      → ((k : ℕ) (d : Assigned) → k < length trail → IsReason clauses (falses (take k trail)) (get_or trail k d).literal (get_or trail k d).reason
      → IsReason others (falses (take k trail)) (get_or trail k d).literal (get_or trail k d).reason)
      → IsTrail n others trail
  trail_changed others keep k d low = record { in_range = (t k d low).in_range; free = (t k d low).free; reason = keep k d low (t k d low).reason }
