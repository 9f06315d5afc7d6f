-- One more step of a log.
use Rattle.std.proofs.Common.{◌≡◌, ◌+◌, ◌<◌, ◌++◌, ◌∷◌, [], ◌⊎◌, inl, inr, ℕ, zero, suc, List, refl, sym, ap, subst, ◌∙◌, length, length-append, append_assoc, take, arith}
use Rattle.std.specs.Prelude.{ℤ, IsSomeAnd, slice_get, Option, Some}
use Rattle.std.proofs.lemmas.List.{map-append, take-append-le}
use Rattle.std.proofs.Math.Seq.{take-append_seam}
use Rattle.rup_checker.specs.declared.log.Step.{Step}
use Rattle.rup_checker.specs.Formulas.{Cnf}
use Rattle.rup_checker.specs.Logs.{known, added, Each}

pub get_before : {X : Type 0} (xs ys : List X) (k : ℕ) → k < length xs → slice_get (xs ++ ys) k ≡ slice_get xs k
get_before [] ys k low = absurd (omega (arith, low))
get_before (x ∷ xs) ys zero low = refl
get_before (x ∷ xs) ys (suc k) low = get_before xs ys k (omega (arith, low))

get_last : {X : Type 0} (xs : List X) (y : X) (ys : List X) → slice_get (xs ++ y ∷ ys) (length xs) ≡ Some y
get_last [] y ys = refl
get_last (x ∷ xs) y ys = get_last xs y ys

-- the clauses with that of one more step
pub known_push : (f : Cnf) (steps : List Step) (s : Step) → known f (steps ++ s ∷ []) ≡ known f steps ++ s.clause ∷ []
known_push f steps s =
    ap (λ (cs : List (List ℤ)). f.clauses ++ cs) (map-append (λ (t : Step). t.clause) steps (s ∷ []))
    ∙ sym (append_assoc f.clauses (added steps) (s.clause ∷ []))

-- what each step has, and one more, each of them all has
pub each_push : (P : List (List ℤ) → Step → Type 0) (f : Cnf) (steps : List Step) (s : Step) → Each P f steps → P (known f steps) s → Each P f (steps ++ s ∷ [])
each_push P f steps s each here n low = elim (place n (length steps) (omega (arith, low, length-append steps (s ∷ [])))) [
  | inl before ↦ subst (λ (o : Option Step). IsSomeAnd o (P (known f (take n (steps ++ s ∷ []))))) (sym (get_before steps (s ∷ []) n before))
      (subst (λ (ts : List Step). IsSomeAnd (slice_get steps n) (P (known f ts))) (sym (take-append-le n steps (s ∷ []) (omega (arith, before)))) (each n before))
  | inr last ↦ subst (λ (k : ℕ). IsSomeAnd (slice_get (steps ++ s ∷ []) k) (P (known f (take k (steps ++ s ∷ []))))) (sym last)
      (subst (λ (o : Option Step). IsSomeAnd o (P (known f (take (length steps) (steps ++ s ∷ []))))) (sym (get_last steps s []))
      (subst (λ (ts : List Step). P (known f ts) s) (sym (take-append_seam steps (s ∷ []))) here))
]
  where
    place : (n k : ℕ) → n < k + 1 → (n < k) ⊎ (n ≡ k)
    place n k h = grind arith

pub each_none : (P : List (List ℤ) → Step → Type 0) (f : Cnf) → Each P f []
each_none P f n low = absurd (omega (arith, low))
