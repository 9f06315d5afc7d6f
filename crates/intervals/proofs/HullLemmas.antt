-- The hull of some numbers: that it holds each of them, and that it can be begun from any of them.
use Rattle.std.proofs.Common.{◌≡◌, ℤ, ◌≤ℤ◌, ◌⊎◌, inl, inr, refl, sym, ap, ◌∙◌, arith, List, [], ◌∷◌, ◌++◌}
use Rattle.std.proofs.lemmas.Int.{ints, clamps}
use Rattle.std.proofs.lemmas.List.Sums.{fold-append}
use Rattle.std.specs.List.{fold}
use Rattle.std.specs.Int.{int_min, int_max}
use Rattle.intervals.specs.Ends.{Ends, Holds}
use Rattle.intervals.specs.Hulls.{extended}
use Rattle.intervals.specs.Rules.{hull_of}

-- x is one of the numbers
abbrev pub Among : ℤ → List ℤ → Type 0
Among x [] = ⊥
Among x (y ∷ ys) = (x ≡ y) ⊎ Among x ys

pub Among_right : (x : ℤ) (xs ys : List ℤ) → Among x ys → Among x (xs ++ ys)
Among_right x [] ys h = h
Among_right x (y ∷ xs) ys h = inr (Among_right x xs ys h)

pub Among_left : (x : ℤ) (xs ys : List ℤ) → Among x xs → Among x (xs ++ ys)
Among_left x [] ys h = absurd h
Among_left x (y ∷ xs) ys (inl e) = inl e
Among_left x (y ∷ xs) ys (inr h) = inr (Among_left x xs ys h)

pub extended_append : (e : Ends) (xs ys : List ℤ) → extended (extended e xs) ys ≡ extended e (xs ++ ys)
extended_append e xs ys =
    let p = sym (fold-append int_min e.lo xs ys) in
    let q = sym (fold-append int_max e.hi xs ys) in
    λ i. record { lo = p i; hi = q i }

min_assoc : (a b c : ℤ) → int_min (int_min a b) c ≡ int_min a (int_min b c)
min_assoc a b c = omega (arith, ints, clamps)

max_assoc : (a b c : ℤ) → int_max (int_max a b) c ≡ int_max a (int_max b c)
max_assoc a b c = omega (arith, ints, clamps)

min_pull : (q a : ℤ) (xs : List ℤ) → fold int_min (int_min q a) xs ≡ int_min q (fold int_min a xs)
min_pull q a [] = refl
min_pull q a (x ∷ xs) = ap (λ z. fold int_min z xs) (min_assoc q a x) ∙ min_pull q (int_min a x) xs

max_pull : (q a : ℤ) (xs : List ℤ) → fold int_max (int_max q a) xs ≡ int_max q (fold int_max a xs)
max_pull q a [] = refl
max_pull q a (x ∷ xs) = ap (λ z. fold int_max z xs) (max_assoc q a x) ∙ max_pull q (int_max a x) xs

le_self : (a : ℤ) → a ≤ℤ a
le_self a = omega (arith, ints)

min_step : (m a x : ℤ) → m ≤ℤ int_min a x → (m ≤ℤ a) × (m ≤ℤ x)
min_step m a x h = omega (arith, ints, clamps)

max_step : (m a x : ℤ) → int_max a x ≤ℤ m → (a ≤ℤ m) × (x ≤ℤ m)
max_step m a x h = omega (arith, ints, clamps)

min_le : (a : ℤ) (xs : List ℤ) → fold int_min a xs ≤ℤ a
min_le a [] = le_self a
min_le a (x ∷ xs) = (min_step (fold int_min (int_min a x) xs) a x (min_le (int_min a x) xs)).0

le_max : (a : ℤ) (xs : List ℤ) → a ≤ℤ fold int_max a xs
le_max a [] = le_self a
le_max a (x ∷ xs) = (max_step (fold int_max (int_max a x) xs) a x (le_max (int_max a x) xs)).0

le_equal : (m a q : ℤ) → m ≤ℤ a → q ≡ a → m ≤ℤ q
le_equal m a q h e = omega (arith, ints)

equal_le : (m a q : ℤ) → a ≤ℤ m → q ≡ a → q ≤ℤ m
equal_le m a q h e = omega (arith, ints)

min_member : (q a : ℤ) (xs : List ℤ) → Among q (a ∷ xs) → fold int_min a xs ≤ℤ q
min_member q a xs (inl e) = le_equal _ a q (min_le a xs) e
min_member q a [] (inr h) = absurd h
min_member q a (x ∷ xs) (inr (inl e)) = le_equal _ x q (min_step (fold int_min (int_min a x) xs) a x (min_le (int_min a x) xs)).1 e
min_member q a (x ∷ xs) (inr (inr h)) = min_member q (int_min a x) xs (inr h)

max_member : (q a : ℤ) (xs : List ℤ) → Among q (a ∷ xs) → q ≤ℤ fold int_max a xs
max_member q a xs (inl e) = equal_le _ a q (le_max a xs) e
max_member q a [] (inr h) = absurd h
max_member q a (x ∷ xs) (inr (inl e)) = equal_le _ x q (max_step (fold int_max (int_max a x) xs) a x (le_max (int_max a x) xs)).1 e
max_member q a (x ∷ xs) (inr (inr h)) = max_member q (int_max a x) xs (inr h)

-- each of the numbers is in their hull
pub hull_holds : (x : ℤ) (xs : List ℤ) → Among x xs → Holds (hull_of xs) x
hull_holds x [] h = absurd h
hull_holds x (y ∷ ys) h = record { above = min_member x y ys h; below = max_member x y ys h }

min_absorb : (q m : ℤ) → m ≤ℤ q → int_min q m ≡ m
min_absorb q m h = omega (arith, ints, clamps)

max_absorb : (q m : ℤ) → q ≤ℤ m → int_max q m ≡ m
max_absorb q m h = omega (arith, ints, clamps)

-- begun from one of them, the hull is the same
pub from_member : (q : ℤ) (xs : List ℤ) → Among q xs → extended (record { lo = q; hi = q }) xs ≡ hull_of xs
from_member q [] h = absurd h
from_member q (x ∷ xs) h =
    let low = min_pull q x xs ∙ min_absorb q (fold int_min x xs) (min_member q x xs h) in
    let high = max_pull q x xs ∙ max_absorb q (fold int_max x xs) (max_member q x xs h) in
    λ i. record { lo = low i; hi = high i }
