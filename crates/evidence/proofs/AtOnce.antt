-- What is there at a place of a list.
use Rattle.std.proofs.Common.{◌≡◌, ℕ, zero, suc, ◌<◌, List, [], ◌∷◌, length, take, Some, None, slice_get, refl, ap, subst, inl, inr, arith}
use Rattle.std.specs.Prelude.{Option, IsSomeAnd, All}
use Rattle.std.proofs.lemmas.Option.{slice_get_past, none-some, same_Some}
use Rattle.std.proofs.lemmas.List.Elements.{All-head, All-tail}
use Rattle.std.proofs.lemmas.Bool.{cases_lt}

-- two facts of one value
pub at_once : {X : Type 0} (o : Option X) (P Q : X → Type 0) → IsSomeAnd o P → IsSomeAnd o Q → (x : X) × P x × Q x
at_once (Some x) P Q p q = (x, p, q)
at_once None P Q p q = absurd p

pub some_within : {X : Type 0} (xs : List X) (n : ℕ) (P : X → Type 0) → IsSomeAnd (slice_get xs n) P → n < length xs
some_within xs n P h = elim (cases_lt n (length xs)) [
  | inl lt ↦ lt
  | inr le ↦ absurd (subst (λ o. IsSomeAnd o P) (slice_get_past xs n le) h)
]

-- a fact of all values, at one
pub all_at : {X : Type 0} (P : X → Type 0) (xs : List X) (n : ℕ) (x : X) → All P xs → slice_get xs n ≡ Some x → P x
all_at P [] n x all at = absurd (none-some x at)
all_at P (y ∷ xs) zero x all at = subst P (same_Some y x at) (All-head P y xs all)
all_at P (y ∷ xs) (suc n) x all at = all_at P xs n x (All-tail P y xs all) at

-- the first items, among more of them
pub take-get : {X : Type 0} (xs : List X) (n k : ℕ) → k < n → slice_get (take n xs) k ≡ slice_get xs k
take-get xs zero k lt = absurd (omega (arith, lt))
take-get [] (suc n) k lt = refl
take-get (x ∷ xs) (suc n) zero lt = refl
take-get (x ∷ xs) (suc n) (suc k) lt = take-get xs n k (omega (arith, lt))

pub take-take : {X : Type 0} (xs : List X) (n k : ℕ) → k < n → take k (take n xs) ≡ take k xs
take-take xs zero k lt = absurd (omega (arith, lt))
take-take [] (suc n) k lt = refl
take-take (x ∷ xs) (suc n) zero lt = refl
take-take {X = X} (x ∷ xs) (suc n) (suc k) lt = ap (λ (ys : List X). x ∷ ys) (take-take xs n k (omega (arith, lt)))
