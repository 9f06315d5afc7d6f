-- What stands in lists: in front, further on, in a list that is made of others.
use Rattle.std.proofs.Common.{◌≡◌, ℕ, zero, suc, ◌+◌, ◌<◌, ◌⊎◌, inl, inr, List, [], ◌∷◌, ◌++◌, map, length, get_or, refl, sym, subst, arith}
use Rattle.std.specs.List.{AllByRecursion, Contains, flat_map, range_with_len}
use Rattle.std.proofs.lemmas.List.Elements.{Contains-append_left, Contains-append_right, Contains-append_cases}

-- ---- one by one

pub in_front : {A : Type 0} (x : A) (xs : List A) → Contains (x ∷ xs) x
in_front x xs = (0, omega arith, refl)

pub further_on : {A : Type 0} (y x : A) (xs : List A) → Contains xs x → Contains (y ∷ xs) x
further_on y x xs h = (suc h.0, omega (arith, h.1), h.2)

pub in_none : {A : Type 0} (x : A) → Contains [] x → ⊥
in_none x h = omega (arith, h.1)

pub front_or_further : {A : Type 0} (y : A) (xs : List A) (x : A) → Contains (y ∷ xs) x → (y ≡ x) ⊎ Contains xs x
front_or_further {A} y xs x h = by h.0 h.1 h.2
  where
    by : (k : ℕ) → k < length (y ∷ xs) → get_or (y ∷ xs) k x ≡ x → (y ≡ x) ⊎ Contains xs x
    by zero below is = inl is
    by (suc k) below is = inr (k, omega arith, is)

-- what holds of all holds of each
pub all_hold : {A : Type 0} (P : A → Type 0) (xs : List A) (x : A) → AllByRecursion P xs → Contains xs x → P x
all_hold P [] x all h = absurd (in_none x h)
all_hold {A} P (y ∷ xs) x all h = by (all_hold P xs x all.1) (front_or_further y xs x h)
  where
    by : (Contains xs x → P x) → (y ≡ x) ⊎ Contains xs x → P x
    by rest (inl same) = subst P same all.0
    by rest (inr there) = rest there

-- what holds of all of two lists holds of all of each
pub all_both : {A : Type 0} (P : A → Type 0) (xs ys : List A) → AllByRecursion P (xs ++ ys) → AllByRecursion P xs × AllByRecursion P ys
all_both P [] ys all = (tt, all)
all_both P (x ∷ xs) ys all = let p = all_both P xs ys all.1 in ((all.0, p.0), p.1)

-- ---- made of others

pub in_map : {A B : Type 0} (f : A → B) (xs : List A) (x : A) → Contains xs x → Contains (map f xs) (f x)
in_map f [] x h = absurd (in_none x h)
in_map {A} {B} f (y ∷ xs) x h = by (in_map f xs x) (front_or_further y xs x h)
  where
    by : (Contains xs x → Contains (map f xs) (f x)) → (y ≡ x) ⊎ Contains xs x → Contains (map f (y ∷ xs)) (f x)
    by rest (inl same) = subst (λ z. Contains (f y ∷ map f xs) (f z)) same (in_front (f y) (map f xs))
    by rest (inr there) = further_on (f y) (f x) (map f xs) (rest there)

-- what stands in a mapped list is made of something
pub record IsMade {A B : Type 0} (f : A → B) (xs : List A) (y : B) : Type 0 where
  pub of : A
  pub there : Contains xs of
  pub is : f of ≡ y

pub from_map : {A B : Type 0} (f : A → B) (xs : List A) (y : B) → Contains (map f xs) y → IsMade f xs y
from_map f [] y h = absurd (in_none y h)
from_map {A} {B} f (x ∷ xs) y h = by (from_map f xs y) (front_or_further (f x) (map f xs) y h)
  where
    by : (Contains (map f xs) y → IsMade f xs y) → (f x ≡ y) ⊎ Contains (map f xs) y → IsMade f (x ∷ xs) y
    by rest (inl same) = record { of = x; there = in_front x xs; is = same }
    by rest (inr there) = let r = rest there in record { of = r.of; there = further_on x r.of xs r.there; is = r.is }

pub in_flat : {A B : Type 0} (f : A → List B) (xs : List A) (x : A) (y : B) → Contains xs x → Contains (f x) y → Contains (flat_map f xs) y
in_flat f [] x y h k = absurd (in_none x h)
in_flat {A} {B} f (z ∷ xs) x y h k = by (λ there. in_flat f xs x y there k) (front_or_further z xs x h)
  where
    by : (Contains xs x → Contains (flat_map f xs) y) → (z ≡ x) ⊎ Contains xs x → Contains (flat_map f (z ∷ xs)) y
    by rest (inl same) = Contains-append_left (f z) (flat_map f xs) y (subst (λ w. Contains (f w) y) (sym same) k)
    by rest (inr there) = Contains-append_right (f z) (flat_map f xs) y (rest there)

-- what stands in lists that follow each other stands in one of them
pub record IsInOne {A B : Type 0} (f : A → List B) (xs : List A) (y : B) : Type 0 where
  pub of : A
  pub there : Contains xs of
  pub here : Contains (f of) y

pub from_flat : {A B : Type 0} (f : A → List B) (xs : List A) (y : B) → Contains (flat_map f xs) y → IsInOne f xs y
from_flat f [] y h = absurd (in_none y h)
from_flat {A} {B} f (x ∷ xs) y h = by (from_flat f xs y) (Contains-append_cases (f x) (flat_map f xs) y h)
  where
    by : (Contains (flat_map f xs) y → IsInOne f xs y) → Contains (f x) y ⊎ Contains (flat_map f xs) y → IsInOne f (x ∷ xs) y
    by rest (inl here) = record { of = x; there = in_front x xs; here = here }
    by rest (inr further) = let r = rest further in record { of = r.of; there = further_on x r.of xs r.there; here = r.here }

-- ---- numbers one after the other

pub in_range : (a n i : ℕ) → i < n → Contains (range_with_len a n) (a + i)
in_range a zero i h = absurd (omega arith)
in_range a (suc n) zero h = subst (Contains (a ∷ range_with_len (a + 1) n)) own (in_front a (range_with_len (a + 1) n))
  where
    own : a ≡ a + zero
    own = omega arith
in_range a (suc n) (suc i) h = further_on a (a + suc i) (range_with_len (a + 1) n) (subst (Contains (range_with_len (a + 1) n)) moved (in_range (a + 1) n i (omega arith)))
  where
    moved : (a + 1) + i ≡ a + suc i
    moved = omega arith

pub below_end : (a n x : ℕ) → Contains (range_with_len a n) x → x < a + n
below_end a zero x h = absurd (in_none x h)
below_end a (suc n) x h = by (below_end (a + 1) n x) (front_or_further a (range_with_len (a + 1) n) x h)
  where
    by : (Contains (range_with_len (a + 1) n) x → x < a + 1 + n) → (a ≡ x) ⊎ Contains (range_with_len (a + 1) n) x → x < a + suc n
    by rest (inl same) = omega arith
    by rest (inr there) = omega (arith, rest there)
