-- Clauses that follow along hints: each hint leaves one literal, which is true, and the last one is false.
use Rattle.std.proofs.Common.{◌≡◌, ◌≢◌, ◌<◌, ◌++◌, ◌∷◌, [], ◌⊎◌, inl, inr, ℕ, zero, suc, List, refl, sym, subst, length, get_or, arith}
use Rattle.std.specs.Prelude.{ℤ, neg_ℤ, Contains, IsSomeAnd, slice_get}
use Rattle.std.proofs.Math.IntN.{ℤ_discrete}
use Rattle.rup_checker.specs.Steps.{IsAllFalse, IsUnit, Propagates, Refutes}
use Rattle.rup_checker.specs.Stores.{clause_at}
use Rattle.cdcl_solver.specs.Explanations.{Derives}
use Rattle.cdcl_solver.proofs.Members.{IsWithin, first_in, later_in, within_added, all_from_in}
use Rattle.cdcl_solver.proofs.TrailParts.{IsConsistent}

pub derives_more : (cs : List (List ℤ)) (falses : List ℤ) (D E : ℤ → Type 0) (hints : List ℕ) (last : ℕ) → ((m : ℤ) → D m → E m) → Derives cs falses D hints last → Derives cs falses E hints last
derives_more cs falses D E [] last more h = (h.0, λ m here. more m (h.1 m here))
derives_more cs falses D E (hint ∷ hints) last more h = (
  h.0,
  h.1,
  h.2,
  h.3,
  (λ m here ne. more m (h.4 m here ne)),
  derives_more cs falses (λ m. D m ⊎ (neg_ℤ h.0 ≡ m)) (λ m. E m ⊎ (neg_ℤ h.0 ≡ m)) hints last (λ m d. elim d [ inl p ↦ inl (more m p) | inr e ↦ inr e ]) h.5,
)

-- a false literal is replaced by the other literals of a clause that made its negation true
pub derives_resolved : (cs : List (List ℤ)) (falses : List ℤ) (D : ℤ → Type 0) (hints : List ℕ) (last hint : ℕ) (l : ℤ) → Derives cs falses D hints last → hint < length cs
    → Contains (clause_at cs hint) l → Contains falses (neg_ℤ l)
    → Derives cs falses (λ m. (D m × (m ≢ neg_ℤ l)) ⊎ (Contains (clause_at cs hint) m × (m ≢ l))) (hint ∷ hints) last
derives_resolved cs falses D hints last hint l h low here false' = (
  l,
  low,
  here,
  false',
  (λ m in_c ne. inr (in_c, ne)),
  derives_more cs falses D (λ m. ((D m × (m ≢ neg_ℤ l)) ⊎ (Contains (clause_at cs hint) m × (m ≢ l))) ⊎ (neg_ℤ l ≡ m)) hints last
      (λ m d. elim (ℤ_discrete m (neg_ℤ l)) [ yes e ↦ inr (sym e) | no ne ↦ inl (inl (d, ne)) ]) h,
)

-- what a place has
pub some_at : {X : Type 0} (xs : List X) (k : ℕ) (d : X) (P : X → Type 0) → k < length xs → P (get_or xs k d) → IsSomeAnd (slice_get xs k) P
some_at [] k d P low h = absurd (omega (arith, low))
some_at (x ∷ xs) zero d P low h = h
some_at (x ∷ xs) (suc k) d P low h = some_at xs k d P (omega (arith, low)) h

pub at_some_and : {X : Type 0} (xs : List X) (k : ℕ) (d : X) (P : X → Type 0) → IsSomeAnd (slice_get xs k) P → P (get_or xs k d)
at_some_and [] k d P h = absurd h
at_some_and (x ∷ xs) zero d P h = h
at_some_and (x ∷ xs) (suc k) d P h = at_some_and xs k d P h

pub some_low : {X : Type 0} (xs : List X) (k : ℕ) (P : X → Type 0) → IsSomeAnd (slice_get xs k) P → k < length xs
some_low [] k P h = absurd h
some_low (x ∷ xs) zero P h = omega arith
some_low (x ∷ xs) (suc k) P h = let low = some_low xs k P h in omega (arith, low)

-- along the hints propagation reaches the false clause
reaches : (cs : List (List ℤ)) (falses : List ℤ) (D : ℤ → Type 0) (taken : List ℤ) (hints : List ℕ) (last : ℕ) → IsConsistent falses → IsWithin taken falses
    → ((m : ℤ) → D m → Contains taken m) → Derives cs falses D hints last
    → (after : List ℤ) × Propagates cs taken hints after × IsSomeAnd (slice_get cs last) (IsAllFalse (Contains after))
reaches cs falses D taken [] last consistent within among h =
    (taken, refl, some_at cs last [] (IsAllFalse (Contains taken)) h.0 (all_from_in (Contains taken) (clause_at cs last) (λ m here. among m (h.1 m here))))
reaches cs falses D taken (hint ∷ hints) last consistent within among h =
    let next = reaches cs falses (λ m. D m ⊎ (neg_ℤ h.0 ≡ m)) (neg_ℤ h.0 ∷ taken) hints last consistent (within_added (neg_ℤ h.0) taken falses h.3 within)
    (λ m d. elim d [
      | inl p ↦ later_in (neg_ℤ h.0) taken m (among m p)
      | inr e ↦ subst (Contains (neg_ℤ h.0 ∷ taken)) e (first_in (neg_ℤ h.0) taken)
    ]) h.5 in (
      next.0,
      (
        h.0,
        some_at cs hint [] (λ c. IsUnit (Contains taken) c h.0) h.1 (record {
          stands = h.2;
          left = λ there. consistent h.0 (within h.0 there) h.3;
          alone = λ m here out. elim (ℤ_discrete m h.0) [ yes e ↦ e | no ne ↦ absurd (out (among m (h.4 m here ne))) ];
        }),
        next.1,
      ),
      next.2,
    )

pub derives_refutes : (cs : List (List ℤ)) (falses clause : List ℤ) (hints : List ℕ) (last : ℕ) → IsConsistent falses → IsWithin clause falses → Derives cs falses (Contains clause) hints last
    → Refutes cs clause (hints ++ last ∷ [])
derives_refutes cs falses clause hints last consistent within h =
    let r = reaches cs falses (Contains clause) clause hints last consistent within (λ m here. here) h in
    record { units = hints; last = last; after = r.0; split = refl; propagated = r.1; conflict = r.2 }
