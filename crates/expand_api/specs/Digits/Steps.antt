-- The functions of lists one digit at a time: digits by their places, lists that grow at the high end, and lists that are
-- gone through from the highest digit down.
use Rattle.std.specs.Prelude.{◌≡◌, ℕ, ◌+◌, ◌-◌, ◌<◌, ◌≤◌, Bool, false, not, ◌&&◌, List, [], ◌∷◌, ◌++◌, length, take, drop, slice_index_or, if◌then◌else◌}
use Rattle.expand_api.specs.Digits.Values.{sign, complement, digits, widened, extended}
use Rattle.expand_api.specs.Digits.Choices.{choice}
use Rattle.expand_api.specs.Digits.Sums.{exclusive_or, majority, sum, carry_into, negation}
use Rattle.expand_api.specs.Digits.Comparisons.{equal, highest_difference}
use Rattle.expand_api.specs.Digits.Readings.{read_by_equalities}
use Rattle.expand_api.specs.Digits.Products.{row, pushed, doubled, product, signed_product}
use Rattle.expand_api.specs.Digits.Quotients.{divided_further, division}

-- the digit at a place, false past the highest
abbrev pub place : List Bool → ℕ → Bool
place xs i = slice_index_or xs i false

-- ---- laws

-- the digits of a choice, where the lists have one length
abbrev pub PlacesOfChoice : Bool → List Bool → List Bool → ℕ → Type 0
PlacesOfChoice c xs ys i = place (choice c xs ys) i ≡ (if c then place xs i else place ys i)

-- the digits of what is made of one list
pub record HasPlaces (c : Bool) (k : ℕ) (xs : List Bool) (i : ℕ) : Type 0 where
  pub opposite : i < length xs → place (complement xs) i ≡ not (place xs i)
  pub in_row : place (row c xs) i ≡ (c && place xs i)
  pub lowest : 0 < length xs → place (pushed c xs) 0 ≡ c
  pub moved : i + 1 < length xs → place (pushed c xs) (i + 1) ≡ place xs i
  pub without_sign : place (widened k xs) i ≡ place xs i
  pub low : i < length xs → place (extended k xs) i ≡ place xs i
  pub high : length xs ≤ i → i < length xs + k → place (extended k xs) i ≡ sign xs
  pub top : sign xs ≡ place xs (length xs - 1)

-- comparisons with one digit more at the high end
pub record GrowsComparisons (xs ys : List Bool) (t x y : Bool) : Type 0 where
  pub equality : equal (xs ++ x ∷ []) (ys ++ y ∷ []) ≡ (equal xs ys && not (exclusive_or x y))
  pub order : highest_difference t (xs ++ x ∷ []) (ys ++ y ∷ []) ≡ (if exclusive_or x y then y else highest_difference t xs ys)

-- the front of a sum and of comparisons of lists of one length, up to one place more
pub record GoesUp (xs ys : List Bool) (t : Bool) (i : ℕ) : Type 0 where
  pub digits :
      sum (take (i + 1) xs) (take (i + 1) ys) t
      ≡ sum (take i xs) (take i ys) t ++ exclusive_or (exclusive_or (place xs i) (place ys i)) (carry_into xs ys t i) ∷ []
  pub next_carry : carry_into xs ys t (i + 1) ≡ majority (place xs i) (place ys i) (carry_into xs ys t i)
  pub equality : equal (take (i + 1) xs) (take (i + 1) ys) ≡ (equal (take i xs) (take i ys) && not (exclusive_or (place xs i) (place ys i)))
  pub order :
      highest_difference t (take (i + 1) xs) (take (i + 1) ys)
      ≡ (if exclusive_or (place xs i) (place ys i) then place ys i else highest_difference t (take i xs) (take i ys))

-- products from the highest digit of ys down to place i
pub record GoesThroughRows (xs ys : List Bool) (i : ℕ) : Type 0 where
  pub rows : i < length ys → product xs (drop i ys) ≡ sum (row (place ys i) xs) (doubled (product xs (drop (i + 1) ys))) false
  pub sign_row : i + 1 ≡ length ys → signed_product xs (drop i ys) ≡ negation (row (place ys i) xs)
  pub signed_rows :
      i + 1 < length ys →
      signed_product xs (drop i ys) ≡ sum (row (place ys i) xs) (doubled (signed_product xs (drop (i + 1) ys))) false

-- division from the highest digit of xs down to place i
abbrev pub GoesThroughDividend : List Bool → List Bool → ℕ → Type 0
GoesThroughDividend xs ys i =
    i < length xs → division (drop i xs) ys ≡ divided_further (place xs i) (division (drop (i + 1) xs) ys) ys

-- reading by equalities from the last row down to row k
abbrev pub GoesThroughReading : List Bool → List (List Bool) → List Bool → ℕ → Type 0
GoesThroughReading index rows other k =
    k < length rows →
    read_by_equalities k index (drop k rows) other
    ≡ choice (equal index (digits (length index) k)) (slice_index_or rows k other) (read_by_equalities (k + 1) index (drop (k + 1) rows) other)
