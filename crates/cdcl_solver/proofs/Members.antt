-- What a list contains, and which lists contain which.
use Rattle.std.proofs.Common.{◌≡◌, ◌<◌, ◌∷◌, [], ◌⊎◌, inl, inr, ℕ, zero, suc, List, refl, subst, length, get_or, arith}
use Rattle.std.specs.Prelude.{ℤ, All, Contains}
use Rattle.std.proofs.Math.IntN.{ℤ_discrete}
use Rattle.std.proofs.lemmas.List.Elements.{Contains-get_or}

pub none_in : {X : Type 0} (x : X) → ¬ (Contains [] x)
none_in x h = omega (arith, h.1)

pub first_in : {X : Type 0} (x : X) (xs : List X) → Contains (x ∷ xs) x
first_in x xs = (0, omega arith, refl)

pub later_in : {X : Type 0} (x : X) (xs : List X) (y : X) → Contains xs y → Contains (x ∷ xs) y
later_in x xs y h = (suc h.0, omega (arith, h.1), h.2)

-- an element is the first one or a later one
pub in_cases : {X : Type 0} (x : X) (xs : List X) (y : X) → Contains (x ∷ xs) y → (x ≡ y) ⊎ Contains xs y
in_cases {X} x xs y h = go h.0 h.1 h.2
  where
    go : (k : ℕ) → k < length (x ∷ xs) → get_or (x ∷ xs) k y ≡ y → (x ≡ y) ⊎ Contains xs y
    go zero low e = inl e
    go (suc k) low e = inr (k, omega (arith, low), e)

-- each element of the one list is an element of the other
abbrev pub IsWithin : {X : Type 0} → List X → List X → Type 0
IsWithin {X} xs ys = (x : X) → Contains xs x → Contains ys x

pub within_more : {X : Type 0} (x : X) (xs ys : List X) → IsWithin xs ys → IsWithin xs (x ∷ ys)
within_more x xs ys h y in_xs = later_in x ys y (h y in_xs)

pub within_both : {X : Type 0} (x : X) (xs ys : List X) → IsWithin xs ys → IsWithin (x ∷ xs) (x ∷ ys)
within_both x xs ys h y in_xs = elim (in_cases x xs y in_xs) [
  | inl e ↦ subst (Contains (x ∷ ys)) e (first_in x ys)
  | inr there ↦ later_in x ys y (h y there)
]

-- a list within another stays so with one more element of that
pub within_added : {X : Type 0} (x : X) (xs ys : List X) → Contains ys x → IsWithin xs ys → IsWithin (x ∷ xs) ys
within_added x xs ys here h y in_xs = elim (in_cases x xs y in_xs) [
  | inl e ↦ subst (Contains ys) e here
  | inr there ↦ h y there
]

-- what holds of all that a list contains
pub all_from_in : {X : Type 0} (P : X → Type 0) (xs : List X) → ((x : X) → Contains xs x → P x) → All P xs
all_from_in P xs h k d low = h (get_or xs k d) (Contains-get_or xs k d low)

-- a list of literals contains a literal, or it doesn't
pub decide_in : (xs : List ℤ) (l : ℤ) → Contains xs l ⊎ ¬ (Contains xs l)
decide_in [] l = inr (none_in l)
decide_in (x ∷ xs) l = elim (ℤ_discrete x l) [
  | yes e ↦ inl (subst (Contains (x ∷ xs)) e (first_in x xs))
  | no ne ↦ elim (decide_in xs l) [
    | inl there ↦ inl (later_in x xs l there)
    | inr out ↦ inr (λ h. elim (in_cases x xs l h) [ inl e ↦ ne e | inr there ↦ out there ])
  ]
]
