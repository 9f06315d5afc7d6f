-- Where the literals of the last level stand.
use Rattle.std.proofs.Common.{◌≡◌, ◌≢◌, ◌+◌, ◌-◌, ◌<◌, ◌≤◌, ◌⊎◌, inl, inr, ℕ, zero, suc, List, refl, sym, ap, subst, ◌∙◌, length, get_or, set, take, arith}
use Rattle.std.specs.Prelude.{ℤ, pos, negsuc, neg_ℤ, nat_abs, Contains}
use Rattle.std.proofs.Math.IntN.{neg_ℤ-neg_ℤ}
use Rattle.std.proofs.lemmas.List.{get_or_default, get_or-set_other, get_or-set_same, take_more}
use Rattle.std.proofs.lemmas.List.Elements.{Contains-push_cases}
use Rattle.cdcl_solver.specs.declared.trail.Assigned.{Assigned}
use Rattle.cdcl_solver.specs.Trails.{falses}
use Rattle.cdcl_solver.specs.Searches.{Searched, taken, IsSearch}
use Rattle.cdcl_solver.specs.Explanations.{AreLocated, IsSince}
use Rattle.cdcl_solver.proofs.Asserting.{nothing}
use Rattle.cdcl_solver.proofs.Short.{trail_apart}
use Rattle.cdcl_solver.proofs.TrailParts.{false_since, false_before, falses_earlier}

nat_abs-neg : (l : ℤ) → nat_abs (neg_ℤ l) ≡ nat_abs l
nat_abs-neg (pos zero) = refl
nat_abs-neg (pos (suc n)) = refl
nat_abs-neg (negsuc n) = refl

below_or_from : (m n : ℕ) → (m < n) ⊎ (n ≤ m)
below_or_from m n = grind arith

-- a lower place will do
pub since_lower : (s : Searched) (start place lower : ℕ) (l : ℤ) → lower ≤ place → IsSince s start place l → IsSince s start lower l
since_lower s start place lower l le (inl early) = inl early
since_lower s start place lower l le (inr out) = inr (λ h. out (falses_earlier lower place s.trail le l h))

module _ (s : Searched) (start : ℕ) (search : IsSearch s) where
  -- a literal stands where its negation is on the trail
  pub since_found : (at : ℕ) (l : ℤ) → at < length s.trail → (get_or s.trail at nothing).literal ≡ neg_ℤ l → IsSince s start at l
  since_found at l low is = inr (λ h. (search.justified at nothing low).free.1 (subst (Contains (falses (take at s.trail))) (sym (ap neg_ℤ is ∙ neg_ℤ-neg_ℤ l)) h))

  -- a literal that isn't found was false earlier
  pub since_early : (places : List ℕ) (l : ℤ) (at end : ℕ) → start ≤ length s.trail → AreLocated s start places → at ≡ get_or places (nat_abs l) 0
      → ((at < length s.trail) → (start ≤ at + 1) → (get_or s.trail at nothing).literal ≢ neg_ℤ l) → Contains (taken s) l → IsSince s start end l
  since_early places l at end within located is out here =
      let p = false_since s.trail l nothing here in
      let variable : nat_abs (get_or s.trail p.0 nothing).literal ≡ nat_abs l = sym (nat_abs-neg (get_or s.trail p.0 nothing).literal) ∙ ap nat_abs p.2 in
      inl (elim (below_or_from p.0 (start - 1)) [
        | inl less ↦ subst (Contains (falses (take (start - 1) s.trail))) p.2 (false_before s.trail p.0 (start - 1) nothing less (omega (arith, within)))
        | inr far ↦
            let same : at ≡ p.0 = is ∙ ap (λ (v : ℕ). get_or places v 0) (sym variable) ∙ located p.0 nothing (omega (arith, far)) p.1 in
            absurd (out (subst (λ (k : ℕ). k < length s.trail) (sym same) p.1) (omega (arith, far, same))
            (ap (λ (k : ℕ). (get_or s.trail k nothing).literal) same ∙ sym (neg_ℤ-neg_ℤ (get_or s.trail p.0 nothing).literal) ∙ ap neg_ℤ p.2))
      ])

-- one more literal's place is noted
pub located_more : (s : Searched) (start at : ℕ) (old new : List ℕ) (v : ℕ) → IsSearch s → at < length s.trail → length old ≡ s.variables + 1 → v ≡ nat_abs (get_or s.trail at nothing).literal → new ≡ set old v at
    → ((k : ℕ) → start ≤ k + 1 → k < at → get_or old (nat_abs (get_or s.trail k nothing).literal) 0 ≡ k) → (k : ℕ) → start ≤ k + 1 → k < at + 1 → get_or new (nat_abs (get_or s.trail k nothing).literal) 0 ≡ k
located_more s start at old new v search low size is written before k from less = subst (λ (ps : List ℕ). get_or ps (nat_abs (get_or s.trail k nothing).literal) 0 ≡ k) (sym written) (elim (order k at less) [
  | inl earlier ↦ get_or-set_other old v (nat_abs (get_or s.trail k nothing).literal) at 0
      (λ e. trail_apart s.variables s.clauses s.trail search.justified k at earlier low (e ∙ is)) ∙ before k from earlier
  | inr same ↦ ap (λ (w : ℕ). get_or (set old v at) w 0) (ap (λ (j : ℕ). nat_abs (get_or s.trail j nothing).literal) same ∙ sym is)
      ∙ get_or-set_same old v at 0 (let known = (search.justified at nothing low).in_range.known in omega (arith, known, is, size)) ∙ sym same
])
  where
    order : (a b : ℕ) → a < b + 1 → (a < b) ⊎ (a ≡ b)
    order a b h = grind arith

-- all of them are
pub located_all : (s : Searched) (start at : ℕ) (places : List ℕ) → length s.trail ≤ at → ((k : ℕ) → start ≤ k + 1 → k < at → get_or places (nat_abs (get_or s.trail k nothing).literal) 0 ≡ k) → AreLocated s start places
located_all s start at places far before k d from low = ap (λ (a : Assigned). get_or places (nat_abs a.literal) 0) (get_or_default s.trail k d nothing low) ∙ before k from (omega (arith, low, far))

-- one more literal of a clause was looked at
pub since_more : (s : Searched) (start first next at i : ℕ) (clause : List ℤ) (x : ℤ) → i < length clause → x ≡ get_or clause i (pos 0) → next ≤ first → next ≤ at
    → ((m : ℤ) → Contains (take i clause) m → Contains (taken s) m → IsSince s start first m) → (Contains (taken s) x → IsSince s start at x)
    → (m : ℤ) → Contains (take (i + 1) clause) m → Contains (taken s) m → IsSince s start next m
since_more s start first next at i clause x low is less less_at before own m there here = elim (Contains-push_cases (take i clause) (get_or clause i (pos 0)) m (subst (λ (ls : List ℤ). Contains ls m) (take_more clause i (pos 0) low) there)) [
  | inl early ↦ since_lower s start first next m less (before m early here)
  | inr same ↦ subst (IsSince s start next) (is ∙ same) (since_lower s start at next x less_at (own (subst (Contains (taken s)) (sym (is ∙ same)) here)))
]
