-- What stands where in lists that follow one another.
use Rattle.std.proofs.Common.{◌≡◌, ℕ, zero, suc, ◌<◌, ◌≤◌, List, [], ◌∷◌, ◌++◌, length, take, Some, slice_get, refl, sym, ap, subst, ◌∙◌, length-append, inl, inr, arith}
use Rattle.std.specs.Prelude.{Option, IsSomeAnd}
use Rattle.std.proofs.lemmas.Bool.{cases_lt}
use Rattle.std.proofs.lemmas.List.{append-nil, take_at, take-append-le}

pub get-front : {X : Type 0} (xs ys : List X) (n : ℕ) → n < length xs → slice_get (xs ++ ys) n ≡ slice_get xs n
get-front [] ys n lt = absurd (omega (arith, lt))
get-front (x ∷ xs) ys zero lt = refl
get-front (x ∷ xs) ys (suc n) lt = get-front xs ys n (omega (arith, lt))

pub get-middle : {X : Type 0} (xs ys : List X) (x : X) → slice_get (xs ++ x ∷ ys) (length xs) ≡ Some x
get-middle [] ys x = refl
get-middle (y ∷ xs) ys x = get-middle xs ys x

-- both parts of a list are told by the length of the first
pub halves : {X : Type 0} (xs zs ys ws : List X) → length xs ≡ length zs → xs ++ ys ≡ zs ++ ws → (xs ≡ zs) × (ys ≡ ws)
halves [] [] ys ws long e = (refl, e)
halves [] (z ∷ zs) ys ws long e = absurd (omega (arith, long))
halves (x ∷ xs) [] ys ws long e = absurd (omega (arith, long))
halves {X = X} (x ∷ xs) (z ∷ zs) ys ws long e =
    let head : x ≡ z = cc in
    let tail : xs ++ ys ≡ zs ++ ws = cc in
    let rest = halves xs zs ys ws (omega (arith, long)) tail in
    (ap (λ (v : X). v ∷ xs) head ∙ ap (λ (vs : List X). z ∷ vs) rest.0, rest.1)

-- a front that is as long as the list
pub whole : {X : Type 0} (xs ys zs : List X) → xs ≡ ys ++ zs → length ys ≡ length xs → xs ≡ ys
whole xs ys zs e long = (halves xs ys [] zs (sym long) (append-nil xs ∙ e)).0

-- a list with one item
pub single : {X : Type 0} (x y : X) (xs ys : List X) → x ∷ [] ≡ xs ++ y ∷ ys → ([] ≡ xs) × (x ≡ y) × ([] ≡ ys)
single x y [] ys e = (refl, cc, cc)
single {X = X} x y (z ∷ xs) ys e =
    let long : 1 ≡ length ((z ∷ xs) ++ y ∷ ys) = ap (λ (t : List X). length t) e in
    absurd (omega (arith, long, length-append (z ∷ xs) (y ∷ ys)))

-- the last of a list, where what was before is no shorter
pub last_there : {X : Type 0} (xs zs ws : List X) (x z : X) → length xs ≤ length zs → xs ++ x ∷ [] ≡ zs ++ z ∷ ws → (xs ≡ zs) × (x ≡ z) × ([] ≡ ws)
last_there {X = X} xs zs ws x z le e =
    let long : length (xs ++ x ∷ []) ≡ length (zs ++ z ∷ ws) = ap (λ (t : List X). length t) e in
    let same : length xs ≡ length zs = omega (arith, le, long, length-append xs (x ∷ []), length-append zs (z ∷ ws)) in
    let parts = halves xs zs (x ∷ []) (z ∷ ws) same e in
    let rest = single x z [] ws parts.1 in
    (parts.0, rest.1, rest.2)

module _ {X : Type 0} (P : ℕ → X → Type 0) where
  -- the facts of a list, and one of one item more
  pub each_more : (xs : List X) (x : X) → ((n : ℕ) → n < length xs → IsSomeAnd (slice_get xs n) (P n)) → P (length xs) x → (n : ℕ) → n < length (xs ++ x ∷ []) → IsSomeAnd (slice_get (xs ++ x ∷ []) n) (P n)
  each_more xs x each here n lt = elim (cases_lt n (length xs)) [
    | inl before ↦ subst (λ (o : Option X). IsSomeAnd o (P n)) (sym (get-front xs (x ∷ []) n before)) (each n before)
    | inr le ↦ (
        let same : length xs ≡ n = omega (arith, lt, le, length-append xs (x ∷ [])) in
        subst (λ k. IsSomeAnd (slice_get (xs ++ x ∷ []) k) (P k)) same (subst (λ (o : Option X). IsSomeAnd o (P (length xs))) (sym (get-middle xs [] x)) here))
  ]

  -- the facts of a list are those of a longer one, at its front
  pub each_front : (xs ys zs : List X) → xs ++ ys ≡ zs → ((n : ℕ) → n < length xs → IsSomeAnd (slice_get xs n) (P n)) → (n : ℕ) → n < length xs → IsSomeAnd (slice_get zs n) (P n)
  each_front xs ys zs e each n lt = subst (λ (zs : List X). IsSomeAnd (slice_get zs n) (P n)) e (subst (λ (o : Option X). IsSomeAnd o (P n)) (sym (get-front xs ys n lt)) (each n lt))

-- what stands in both of two ways to part a list, of which the first has more in its front
pub record InFront {X : Type 0} (xs zs : List X) (z : X) : Type 0 where
  pub at : slice_get xs (length zs) ≡ Some z
  pub before : take (length zs) xs ≡ zs
  pub each : (n : ℕ) → n < length zs → slice_get zs n ≡ slice_get xs n

pub in_front : {X : Type 0} (xs ys zs ws : List X) (z : X) → xs ++ ys ≡ zs ++ z ∷ ws → length zs < length xs → InFront xs zs z
in_front {X = X} xs ys zs ws z e lt = record {
  at = sym (get-front xs ys (length zs) lt) ∙ ap (λ (t : List X). slice_get t (length zs)) e ∙ get-middle zs ws z;
  before = sym (take-append-le (length zs) xs ys (omega (arith, lt))) ∙ ap (λ (t : List X). take (length zs) t) e ∙ take_at zs (z ∷ ws) (length zs) refl;
  each = λ n lt_n. sym (get-front zs (z ∷ ws) n lt_n) ∙ ap (λ (t : List X). slice_get t n) (sym e) ∙ get-front xs ys n (omega (arith, lt, lt_n));
}
