-- What follows where unit propagation is complete.
use Rattle.std.proofs.Common.{◌∷◌, [], inl, inr, ℕ, zero, suc, List, sym, subst, arith}
use Rattle.std.specs.Prelude.{ℤ, neg_ℤ, All, Contains, IsSomeAnd, slice_get}
use Rattle.std.proofs.lemmas.List.Elements.{All-contains, All-head, All-tail}
use Rattle.rup_checker.specs.Steps.{IsAllFalse, IsUnit, Propagates, Refutes}
use Rattle.rup_checker.specs.Logs.{IsQuiet, IsComplete, IsOpen}
use Rattle.cdcl_solver.proofs.Members.{decide_in, all_from_in, IsWithin, within_added}

-- what holds of all elements holds of the one at a place, beside what holds there
pub all_at : {X : Type 0} (P Q : X → Type 0) (xs : List X) (k : ℕ) (R : Type 0) → All P xs → IsSomeAnd (slice_get xs k) Q → ((x : X) → P x → Q x → R) → R
all_at P Q [] k R all here f = absurd here
all_at P Q (x ∷ xs) zero R all here f = f x (All-head P x xs all) here
all_at P Q (x ∷ xs) (suc k) R all here f = all_at P Q xs k R (All-tail P x xs all) here f

-- what a clause gives where less is false, it has given where propagation is complete
settled_unit : (taken current c : List ℤ) (l : ℤ) → IsWithin current taken → IsQuiet (Contains taken) c → IsUnit (Contains current) c l → Contains taken (neg_ℤ l)
settled_unit taken current c l within settled u = elim (decide_in taken l) [
  | inl here ↦ absurd (settled.0 (all_from_in (Contains taken) c (λ m in_c. elim (decide_in taken m) [
    | inl h ↦ h
    | inr out ↦ subst (Contains taken) (sym (u.alone m in_c (λ h. out (within m h)))) here
  ])))
  | inr out ↦ settled.1 l (record { stands = u.stands; left = out; alone = λ m in_c free. u.alone m in_c (λ h. free (within m h)) })
]

-- where propagation is complete, hints that begin with less reach no more than is false
reaches_within : (clauses : List (List ℤ)) (taken current : List ℤ) (numbers : List ℕ) (after : List ℤ) → IsComplete clauses (Contains taken)
    → IsWithin current taken → Propagates clauses current numbers after → IsWithin after taken
reaches_within clauses taken current [] after complete within p = λ m h. within m (subst (λ (xs : List ℤ). Contains xs m) p h)
reaches_within clauses taken current (number ∷ numbers) after complete within p =
    reaches_within clauses taken (neg_ℤ p.0 ∷ current) numbers after complete
    (within_added (neg_ℤ p.0) current taken
    (all_at (IsQuiet (Contains taken)) (λ c. IsUnit (Contains current) c p.0) clauses number (Contains taken (neg_ℤ p.0)) complete p.1 (λ c settled u. settled_unit taken current c p.0 within settled u))
    within) p.2

-- hints that begin with false literals alone reach no false clause
pub complete_unrefuted : (clauses : List (List ℤ)) (taken clause : List ℤ) (numbers : List ℕ) → IsComplete clauses (Contains taken) → IsWithin clause taken → Refutes clauses clause numbers → ⊥
complete_unrefuted clauses taken clause numbers complete inside r =
    let within = reaches_within clauses taken clause r.units r.after complete inside r.propagated in
    all_at (IsQuiet (Contains taken)) (IsAllFalse (Contains r.after)) clauses r.last ⊥ complete r.conflict
    (λ c settled false'. settled.0 (all_from_in (Contains taken) c (λ m in_c. within m (All-contains (Contains r.after) c m false' in_c))))

-- a clause list at which propagation can be complete is not refuted by propagation alone
pub complete_open : (clauses : List (List ℤ)) (taken : List ℤ) → IsComplete clauses (Contains taken) → IsOpen clauses
complete_open clauses taken complete numbers r = complete_unrefuted clauses taken [] numbers complete (λ m h. absurd (omega (arith, h.1))) r
