-- Items by their place, and lists without two equal items, as one comes to the end.
use Rattle.std.proofs.Common.{◌≡◌, ℕ, zero, suc, ◌<◌, Bool, true, false, List, [], ◌∷◌, ◌++◌, length, Some, slice_get, slice_set, get_or, map, Contains, refl, sym, ap, subst, ◌∙◌, ◌⊎◌, inl, inr, arith}
use Rattle.std.specs.List.{IsDistinct, AllByRecursion}
use Rattle.std.specs.Str.{bytes_eq}
use Rattle.std.proofs.lemmas.Option.{none-some, same_Some, slice_get-map, slice_get-get_or, slice_get_within, slice_get_read, get_or_from_slice_get}
use Rattle.std.specs.Option.{option_map}
use Rattle.std.proofs.lemmas.List.Elements.{Contains-get_or, Contains-append_right}
use Rattle.std.proofs.lemmas.Map.Keys.{IsDistinct-cons, IsDistinct-head, IsDistinct-tail}
use Rattle.std.proofs.lemmas.Slice.Eq.{bytes_eq-Decides}

-- an item of a list with one more is an item of the list, or the last
pub slice_get-push : {X : Type 0} (xs : List X) (x : X) (n : ℕ) (y : X) → slice_get (xs ++ x ∷ []) n ≡ Some y
    → (slice_get xs n ≡ Some y) ⊎ ((n ≡ length xs) × (x ≡ y))
slice_get-push [] x zero y h = inr (refl, same_Some x y h)
slice_get-push [] x (suc n) y h = absurd (none-some y h)
slice_get-push (z ∷ xs) x zero y h = inl h
slice_get-push (z ∷ xs) x (suc n) y h = elim (slice_get-push xs x n y h) [ inl p ↦ inl p | inr p ↦ inr (ap suc p.0, p.1) ]

-- an item stays at its place where others follow
pub slice_get-append : {X : Type 0} (xs ys : List X) (n : ℕ) (y : X) → slice_get xs n ≡ Some y → slice_get (xs ++ ys) n ≡ Some y
slice_get-append [] ys n y h = absurd (none-some y h)
slice_get-append (z ∷ xs) ys zero y h = h
slice_get-append (z ∷ xs) ys (suc n) y h = slice_get-append xs ys n y h

-- the item that came last
pub slice_get-last : {X : Type 0} (xs : List X) (x : X) → slice_get (xs ++ x ∷ []) (length xs) ≡ Some x
slice_get-last [] x = refl
slice_get-last (z ∷ xs) x = slice_get-last xs x

-- a fact of each item, as one comes
pub AllByRecursion-push : {X : Type 0} (P : X → Type 0) (xs : List X) (x : X) → AllByRecursion P xs → P x → AllByRecursion P (xs ++ x ∷ [])
AllByRecursion-push P [] x all p = (p, tt)
AllByRecursion-push P (y ∷ xs) x all p = (all.0, AllByRecursion-push P xs x all.1 p)

-- texts that differ
pub bytes_eq-differs : (xs ys : List ℕ) → (xs ≡ ys → ⊥) → bytes_eq xs ys ≡ false
bytes_eq-differs xs ys differs = by (bytes_eq xs ys) refl
  where
    by : (b : Bool) → bytes_eq xs ys ≡ b → bytes_eq xs ys ≡ false
    by true e = absurd (differs ((bytes_eq-Decides xs ys).0 e))
    by false e = e

-- no texts differ
pub IsDistinct-none : IsDistinct bytes_eq []
unfolding IsDistinct
IsDistinct-none = tt

-- a new text after texts that all differ
pub IsDistinct-push : (xs : List (List ℕ)) (x : List ℕ) → IsDistinct bytes_eq xs → (Contains xs x → ⊥) → IsDistinct bytes_eq (xs ++ x ∷ [])
IsDistinct-push [] x all new = IsDistinct-cons bytes_eq x [] tt all
IsDistinct-push (y ∷ xs) x all new = IsDistinct-cons bytes_eq y (xs ++ x ∷ [])
    (AllByRecursion-push (λ z. bytes_eq y z ≡ false) xs x (IsDistinct-head bytes_eq y xs all)
    (bytes_eq-differs y x (λ same. new (subst (Contains (y ∷ xs)) same (Contains-get_or (y ∷ xs) 0 y (omega arith))))))
    (IsDistinct-push xs x (IsDistinct-tail bytes_eq y xs all) (λ there. new (Contains-append_right (y ∷ []) xs x there)))

-- an item and its place
pub place_of : {X : Type 0} (xs : List X) (x : X) → Contains xs x → (n : ℕ) × (slice_get xs n ≡ Some x)
place_of xs x there = (there.0, slice_get-get_or xs there.0 x there.1 ∙ ap Some there.2)

pub Contains-at : {X : Type 0} (xs : List X) (n : ℕ) (x : X) → slice_get xs n ≡ Some x → Contains xs x
Contains-at xs n x at = (n, slice_get_within xs n x at, get_or_from_slice_get xs n x x at)

-- the item of a list that a function makes, and the item that it comes from
pub slice_get-map_back : {X Y : Type 0} (f : X → Y) (xs : List X) (n : ℕ) (y : Y) → slice_get (map f xs) n ≡ Some y
    → (x : X) × (slice_get xs n ≡ Some x) × (f x ≡ y)
slice_get-map_back f [] n y h = absurd (none-some y h)
slice_get-map_back f (x ∷ xs) zero y h = (x, refl, same_Some (f x) y h)
slice_get-map_back f (x ∷ xs) (suc n) y h = slice_get-map_back f xs n y h

pub slice_get-map_at : {X Y : Type 0} (f : X → Y) (xs : List X) (n : ℕ) (x : X) → slice_get xs n ≡ Some x → slice_get (map f xs) n ≡ Some (f x)
slice_get-map_at f xs n x at = slice_get-map f xs n ∙ ap (option_map f) at

-- an item of a list in which one was replaced
pub slice_get-set_back : {X : Type 0} (xs : List X) (n : ℕ) (y : X) (k : ℕ) (x : X) → slice_get (slice_set xs n y) k ≡ Some x
    → (slice_get xs k ≡ Some x) ⊎ ((k ≡ n) × (y ≡ x))
slice_get-set_back [] n y k x h = inl h
slice_get-set_back (z ∷ xs) zero y zero x h = inr (refl, same_Some y x h)
slice_get-set_back (z ∷ xs) zero y (suc k) x h = inl h
slice_get-set_back (z ∷ xs) (suc n) y zero x h = inl h
slice_get-set_back (z ∷ xs) (suc n) y (suc k) x h = elim (slice_get-set_back xs n y k x h) [ inl p ↦ inl p | inr p ↦ inr (ap suc p.0, p.1) ]

-- the item that a loop reads
pub item_at : {X : Type 0} (xs items : List X) (n : ℕ) (x : X) → items ≡ xs → n < length items → x ≡ get_or items n x → slice_get xs n ≡ Some x
item_at xs items n x same within is = ap (λ ys. slice_get ys n) (sym same) ∙ slice_get_read items (length items) n x refl within is

-- where an item is once one was replaced
pub slice_get-set_there : {X : Type 0} (xs : List X) (n : ℕ) (y : X) (k : ℕ) (x : X) → slice_get xs k ≡ Some x
    → (slice_get (slice_set xs n y) k ≡ Some x) ⊎ ((k ≡ n) × (slice_get (slice_set xs n y) k ≡ Some y))
slice_get-set_there [] n y k x h = absurd (none-some x h)
slice_get-set_there (z ∷ xs) zero y zero x h = inr (refl, refl)
slice_get-set_there (z ∷ xs) zero y (suc k) x h = inl h
slice_get-set_there (z ∷ xs) (suc n) y zero x h = inl h
slice_get-set_there (z ∷ xs) (suc n) y (suc k) x h = elim (slice_get-set_there xs n y k x h) [ inl p ↦ inl p | inr p ↦ inr (ap suc p.0, p.1) ]
