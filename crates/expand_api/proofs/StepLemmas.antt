-- The functions of lists one digit at a time.
use Rattle.std.proofs.Common.{◌≡◌, ℕ, zero, suc, ◌+◌, ◌-◌, ◌<◌, ◌≤◌, min, Bool, true, false, cond, not, ◌&&◌, List, [], ◌∷◌, ◌++◌, length, take, drop, replicate, refl, sym, ap, ◌∙◌, arith}
use Rattle.std.proofs.lemmas.List.{drop_more, drop_all, take_more, length-take}
use Rattle.expand_api.specs.Digits.Values.{last_or, sign, complement, widened}
use Rattle.expand_api.specs.Digits.Sums.{exclusive_or, sum, carry_out, negation}
use Rattle.expand_api.specs.Digits.Comparisons.{equal, highest_difference}
use Rattle.expand_api.specs.Digits.Readings.{read_by_equalities}
use Rattle.expand_api.specs.Digits.Products.{row, pushed, doubled, product, signed_product}
use Rattle.expand_api.specs.Digits.Quotients.{division}
use Rattle.expand_api.specs.Digits.Steps.{place, PlacesOfChoice, HasPlaces, GrowsComparisons, GoesUp, GoesThroughRows, GoesThroughDividend, GoesThroughReading}
use Rattle.expand_api.proofs.ChoiceLemmas.{chooses}
use Rattle.expand_api.proofs.SumLemmas.{grows_sum}

-- ---- places
place_cond : (c : Bool) (xs ys : List Bool) (i : ℕ) → place (cond c xs ys) i ≡ cond c (place xs i) (place ys i)
place_cond true xs ys i = refl
place_cond false xs ys i = refl

pub place_choice : (c : Bool) (xs ys : List Bool) (i : ℕ) → length xs ≡ length ys → PlacesOfChoice c xs ys i
place_choice c xs ys i l = ap (λ zs. place zs i) (chooses c xs ys l) ∙ place_cond c xs ys i

pub place_complement : (xs : List Bool) (i : ℕ) → i < length xs → place (complement xs) i ≡ not (place xs i)
place_complement [] i h = absurd (omega arith)
place_complement (x ∷ xs) zero h = refl
place_complement (x ∷ xs) (suc i) h = place_complement xs i (omega arith)

and_false : (c : Bool) → false ≡ (c && false)
and_false true = refl
and_false false = refl

pub place_row : (c : Bool) (xs : List Bool) (i : ℕ) → place (row c xs) i ≡ (c && place xs i)
place_row c [] i = and_false c
place_row c (x ∷ xs) zero = refl
place_row c (x ∷ xs) (suc i) = place_row c xs i

pub place_lowest : (c : Bool) (xs : List Bool) → 0 < length xs → place (pushed c xs) 0 ≡ c
place_lowest c [] h = absurd (omega arith)
place_lowest c (x ∷ xs) h = refl

place_moved_suc : (c : Bool) (xs : List Bool) (i : ℕ) → suc i < length xs → place (pushed c xs) (suc i) ≡ place xs i
place_moved_suc c [] i h = absurd (omega arith)
place_moved_suc c (x ∷ []) i h = absurd (omega arith)
place_moved_suc c (x ∷ y ∷ xs) zero h = refl
place_moved_suc c (x ∷ y ∷ xs) (suc i) h = place_moved_suc x (y ∷ xs) i (omega arith)

pub place_moved : (c : Bool) (xs : List Bool) (i : ℕ) → i + 1 < length xs → place (pushed c xs) (i + 1) ≡ place xs i
place_moved c xs i h = let e : i + 1 ≡ suc i = omega arith in ap (place (pushed c xs)) e ∙ place_moved_suc c xs i (omega arith)

place_falses : (k i : ℕ) → place (replicate k false) i ≡ false
place_falses zero i = refl
place_falses (suc k) zero = refl
place_falses (suc k) (suc i) = place_falses k i

pub place_widened : (k : ℕ) (xs : List Bool) (i : ℕ) → place (widened k xs) i ≡ place xs i
place_widened k [] i = place_falses k i
place_widened k (x ∷ xs) zero = refl
place_widened k (x ∷ xs) (suc i) = place_widened k xs i

place_before : (xs ys : List Bool) (i : ℕ) → i < length xs → place (xs ++ ys) i ≡ place xs i
place_before [] ys i h = absurd (omega arith)
place_before (x ∷ xs) ys zero h = refl
place_before (x ∷ xs) ys (suc i) h = place_before xs ys i (omega arith)

place_replicated : (k : ℕ) (s : Bool) (i : ℕ) → i < k → place (replicate k s) i ≡ s
place_replicated zero s i h = absurd (omega arith)
place_replicated (suc k) s zero h = refl
place_replicated (suc k) s (suc i) h = place_replicated k s i (omega arith)

place_after : (k : ℕ) (s : Bool) (xs : List Bool) (i : ℕ) → length xs ≤ i → i < length xs + k → place (xs ++ replicate k s) i ≡ s
place_after k s [] i h l = place_replicated k s i (omega arith)
place_after k s (x ∷ xs) zero h l = absurd (omega arith)
place_after k s (x ∷ xs) (suc i) h l = place_after k s xs i (omega arith) (omega arith)

last_place : (x : Bool) (xs : List Bool) → last_or x xs ≡ place (x ∷ xs) (length xs)
last_place x [] = refl
last_place x (y ∷ ys) = last_place y ys

pub sign_place : (xs : List Bool) → sign xs ≡ place xs (length xs - 1)
sign_place [] = refl
sign_place (x ∷ xs) = last_place x xs ∙ ap (place (x ∷ xs)) (omega arith)

pub has_places : (c : Bool) (k : ℕ) (xs : List Bool) (i : ℕ) → HasPlaces c k xs i
has_places c k xs i = record {
  opposite = place_complement xs i;
  in_row = place_row c xs i;
  lowest = place_lowest c xs;
  moved = place_moved c xs i;
  without_sign = place_widened k xs i;
  low = place_before xs (replicate k (sign xs)) i;
  high = place_after k (sign xs) xs i;
  top = sign_place xs;
}

-- ---- one digit more
only_equal : (c : Bool) → (c && true) ≡ c
only_equal true = refl
only_equal false = refl

and_grouped : (a b c : Bool) → (a && (b && c)) ≡ ((a && b) && c)
and_grouped true b c = refl
and_grouped false b c = refl

pub grows_comparisons : (xs ys : List Bool) (t x y : Bool) → length xs ≡ length ys → GrowsComparisons xs ys t x y
grows_comparisons [] [] t x y l = record { equality = only_equal (not (exclusive_or x y)); order = refl }
grows_comparisons [] (w ∷ ys) t x y l = absurd (cc)
grows_comparisons (z ∷ xs) [] t x y l = absurd (cc)
grows_comparisons (z ∷ xs) (w ∷ ys) t x y l =
    let more = grows_comparisons xs ys (cond (exclusive_or z w) w t) x y (omega arith) in
    record {
      equality = ap (λ b. not (exclusive_or z w) && b) more.equality ∙ and_grouped (not (exclusive_or z w)) (equal xs ys) (not (exclusive_or x y));
      order = more.order;
    }

-- ---- from the lowest digit up
front_lengths : (xs ys : List Bool) (i : ℕ) → length xs ≡ length ys → length (take i xs) ≡ length (take i ys)
front_lengths xs ys i l = length-take i xs ∙ ap (min i) l ∙ sym (length-take i ys)

pub goes_up : (xs ys : List Bool) (t : Bool) (i : ℕ) → length xs ≡ length ys → i < length xs → GoesUp xs ys t i
goes_up xs ys t i l h =
    let a = take_more xs i false h in
    let b = take_more ys i false (omega arith) in
    let f = front_lengths xs ys i l in
    let s = grows_sum (take i xs) (take i ys) t (place xs i) (place ys i) f in
    let c = grows_comparisons (take i xs) (take i ys) t (place xs i) (place ys i) f in
    record {
      digits = (λ j. sum (a j) (b j) t) ∙ s.sum_digit;
      next_carry = (λ j. carry_out (a j) (b j) t) ∙ s.next_carry;
      equality = (λ j. equal (a j) (b j)) ∙ c.equality;
      order = (λ j. highest_difference t (a j) (b j)) ∙ c.order;
    }

-- ---- from the highest digit down
sign_row_of : (xs : List Bool) (y : Bool) (ys : List Bool) → ys ≡ [] → signed_product xs (y ∷ ys) ≡ negation (row y xs)
sign_row_of xs y ys e = ap (λ zs. signed_product xs (y ∷ zs)) e

signed_row_of : (xs : List Bool) (y z : Bool) (ys zs : List Bool) → ys ≡ z ∷ zs → signed_product xs (y ∷ ys) ≡ sum (row y xs) (doubled (signed_product xs ys)) false
signed_row_of xs y z ys zs e = ap (λ ws. signed_product xs (y ∷ ws)) e ∙ ap (λ ws. sum (row y xs) (doubled (signed_product xs ws)) false) (sym e)

pub goes_through_rows : (xs ys : List Bool) (i : ℕ) → GoesThroughRows xs ys i
goes_through_rows xs ys i = record {
  rows = λ h. ap (product xs) (drop_more ys i false h);
  sign_row = λ e. ap (signed_product xs) (drop_more ys i false (omega arith)) ∙ sign_row_of xs (place ys i) (drop (i + 1) ys) (drop_all (i + 1) ys (omega arith));
  signed_rows = λ h. ap (signed_product xs) (drop_more ys i false (omega arith)) ∙ signed_row_of xs (place ys i) _ (drop (i + 1) ys) _ (drop_more ys (i + 1) false h);
}

pub goes_through_dividend : (xs ys : List Bool) (i : ℕ) → GoesThroughDividend xs ys i
goes_through_dividend xs ys i h = ap (λ zs. division zs ys) (drop_more xs i false h)

pub goes_through_reading : (index : List Bool) (rows : List (List Bool)) (other : List Bool) (k : ℕ) → GoesThroughReading index rows other k
goes_through_reading index rows other k h = ap (λ rs. read_by_equalities k index rs other) (drop_more rows k other h)
