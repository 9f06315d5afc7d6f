-- Digits and carries of a sum by their places.
use Rattle.std.proofs.Common.{◌≡◌, ℕ, zero, suc, ◌<◌, Bool, false, List, [], ◌∷◌, length, get_or, refl, sym, ap, ◌∙◌, arith}
use Rattle.std.proofs.Common.{add-one}
use Rattle.expand_api.specs.Digits.Sums.{exclusive_or, majority, sum, carry_into, IsSum, IsSumOf}
use Rattle.expand_api.proofs.SumLemmas.{sum_length}

carry_further : (xs ys : List Bool) (c : Bool) (i : ℕ) → length xs ≡ length ys → i < length xs → carry_into xs ys c (suc i) ≡ majority (get_or xs i false) (get_or ys i false) (carry_into xs ys c i)
carry_further [] ys c i l h = absurd (omega arith)
carry_further (x ∷ xs) [] c i l h = absurd (cc)
carry_further (x ∷ xs) (y ∷ ys) c zero l h = refl
carry_further (x ∷ xs) (y ∷ ys) c (suc i) l h = carry_further xs ys (majority x y c) i (omega arith) (omega arith)

sum_each : (xs ys : List Bool) (c : Bool) (i : ℕ) → length xs ≡ length ys → i < length xs → get_or (sum xs ys c) i false ≡ exclusive_or (exclusive_or (get_or xs i false) (get_or ys i false)) (carry_into xs ys c i)
sum_each [] ys c i l h = absurd (omega arith)
sum_each (x ∷ xs) [] c i l h = absurd (cc)
sum_each (x ∷ xs) (y ∷ ys) c zero l h = refl
sum_each (x ∷ xs) (y ∷ ys) c (suc i) l h = sum_each xs ys (majority x y c) i (omega arith) (omega arith)

pub sum_by_places : (xs ys : List Bool) (c : Bool) → length xs ≡ length ys → IsSum xs ys c (sum xs ys c) (carry_into xs ys c)
sum_by_places xs ys c l = record {
  as_long = sym l;
  as_many = sum_length xs ys c l;
  first = refl;
  further = λ i h. ap (carry_into xs ys c) (add-one i) ∙ carry_further xs ys c i l h;
  each = λ i h. sum_each xs ys c i l h;
}

rest_is_sum : (x y : Bool) (xs ys : List Bool) (c t : Bool) (s : List Bool) (carries : ℕ → Bool) → IsSum (x ∷ xs) (y ∷ ys) c (t ∷ s) carries → IsSum xs ys (majority x y c) s (λ i. carries (suc i))
rest_is_sum x y xs ys c t s carries h = record {
  as_long = omega (arith, h.as_long);
  as_many = omega (arith, h.as_many);
  first = h.further 0 (omega arith) ∙ ap (majority x y) h.first;
  further = λ i k. ap carries (omega arith) ∙ h.further (suc i) (omega arith);
  each = λ i k. h.each (suc i) (omega arith);
}

-- whatever has the digits and carries of a sum place by place is the sum
pub sum_from_places : (xs ys : List Bool) (c : Bool) (s : List Bool) (carries : ℕ → Bool) → IsSum xs ys c s carries → IsSumOf xs ys c s carries
sum_from_places [] ys c [] carries h = record { digits = refl; last = h.first }
sum_from_places [] ys c (t ∷ s) carries h = let e = h.as_many in absurd (cc)
sum_from_places (x ∷ xs) [] c s carries h = let e = h.as_long in absurd (cc)
sum_from_places (x ∷ xs) (y ∷ ys) c [] carries h = let e = h.as_many in absurd (cc)
sum_from_places (x ∷ xs) (y ∷ ys) c (t ∷ s) carries h =
    let rest = sum_from_places xs ys (majority x y c) s (λ i. carries (suc i)) (rest_is_sum x y xs ys c t s carries h) in
    let e : t ≡ exclusive_or (exclusive_or x y) c = h.each 0 (omega arith) ∙ ap (exclusive_or (exclusive_or x y)) h.first in
    record { digits = λ i. e i ∷ rest.digits i; last = rest.last }
