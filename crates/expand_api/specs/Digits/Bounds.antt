-- Maximum and minimum, and intervals.
use Rattle.std.specs.Prelude.{◌≡◌, Bool, not, ◌&&◌, List, length, int_le, if◌then◌else◌}
use Rattle.std.specs.Int.{int_min, int_max}
use Rattle.expand_api.specs.Digits.Values.{signed}
use Rattle.expand_api.specs.Digits.Choices.{choice}
use Rattle.expand_api.specs.Digits.Comparisons.{signed_less}

-- the list with the greater value in two's complement
abbrev pub greater : List Bool → List Bool → List Bool
greater xs ys = choice (signed_less xs ys) ys xs

-- the list with the smaller value in two's complement
abbrev pub smaller : List Bool → List Bool → List Bool
smaller xs ys = choice (signed_less ys xs) ys xs

-- whether the value of xs lies in the interval between those of lo and hi
abbrev pub within : List Bool → List Bool → List Bool → Bool
within lo hi xs = not (signed_less xs lo) && not (signed_less hi xs)

-- xs where its value lies in the interval, and else lo
abbrev pub fitted : List Bool → List Bool → List Bool → List Bool
fitted lo hi xs = choice (within lo hi xs) xs lo

-- ---- laws of lists of one length

-- maximum and minimum
pub record TakesExtremes (xs ys : List Bool) : Type 0 where
  pub as_many : (length (greater xs ys) ≡ length xs) × (length (smaller xs ys) ≡ length xs)
  pub maximum : signed (greater xs ys) ≡ int_max (signed xs) (signed ys)
  pub minimum : signed (smaller xs ys) ≡ int_min (signed xs) (signed ys)

-- the test of an interval
abbrev pub TestsInterval : List Bool → List Bool → List Bool → Type 0
TestsInterval lo hi xs = within lo hi xs ≡ (int_le (signed lo) (signed xs) && int_le (signed xs) (signed hi))

-- what doesn't lie in the interval becomes its lower end
pub record FitsInterval (lo hi xs : List Bool) : Type 0 where
  pub as_many : length (fitted lo hi xs) ≡ length xs
  pub value :
      signed (fitted lo hi xs)
      ≡ (if int_le (signed lo) (signed xs) && int_le (signed xs) (signed hi) then signed xs else signed lo)
