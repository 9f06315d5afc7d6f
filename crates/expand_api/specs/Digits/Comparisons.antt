-- Comparisons of lists of digits of one length.
use Rattle.std.specs.Prelude.{◌≡◌, Bool, true, false, not, ◌&&◌, List, [], ◌∷◌, nat_lt, nat_le, int_lt, if◌then◌else◌, IsTrue, ◌↔◌}
use Rattle.expand_api.specs.Digits.Values.{natural, sign, signed, extended}
use Rattle.expand_api.specs.Digits.Sums.{exclusive_or, difference, no_borrow}

-- whether all digits are the same
abbrev pub equal : List Bool → List Bool → Bool
equal [] [] = true
equal [] (y ∷ ys) = false
equal (x ∷ xs) [] = false
equal (x ∷ xs) (y ∷ ys) = not (exclusive_or x y) && equal xs ys

-- the digit of ys at the highest place where the digits differ, or t where there is none
abbrev pub highest_difference : Bool → List Bool → List Bool → Bool
highest_difference t [] ys = t
highest_difference t (x ∷ xs) [] = t
highest_difference t (x ∷ xs) (y ∷ ys) = highest_difference (if exclusive_or x y then y else t) xs ys

-- whether xs is less than ys, both without a sign
abbrev pub less : List Bool → List Bool → Bool
less xs ys = highest_difference false xs ys

-- whether xs is less than ys in two's complement: where the signs differ, whether xs is the negative one
abbrev pub signed_less : List Bool → List Bool → Bool
signed_less xs ys = if exclusive_or (sign xs) (sign ys) then sign xs else less xs ys

-- whether xs is less than ys in two's complement: the sign of their difference with one digit more
abbrev pub less_by_difference : List Bool → List Bool → Bool
less_by_difference xs ys = sign (difference (extended 1 xs) (extended 1 ys))

-- ---- laws

-- lists are equal where their values are, and nowhere else
pub record TestsEquality (xs ys : List Bool) : Type 0 where
  pub lists : IsTrue (equal xs ys) ↔ (xs ≡ ys)
  pub without_sign : IsTrue (equal xs ys) ↔ (natural xs ≡ natural ys)
  pub with_sign : IsTrue (equal xs ys) ↔ (signed xs ≡ signed ys)

-- comparison without a sign: the highest digit that differs decides, and so does the carry of the difference
pub record ComparesNaturals (xs ys : List Bool) : Type 0 where
  pub by_digits : less xs ys ≡ nat_lt (natural xs) (natural ys)
  pub or_equal : highest_difference true xs ys ≡ nat_le (natural xs) (natural ys)
  pub by_difference : not (no_borrow xs ys) ≡ nat_lt (natural xs) (natural ys)
  pub one_answer : not (no_borrow xs ys) ≡ less xs ys

-- comparison in two's complement
pub record ComparesSigned (xs ys : List Bool) : Type 0 where
  pub by_digits : signed_less xs ys ≡ int_lt (signed xs) (signed ys)
  pub by_difference : less_by_difference xs ys ≡ int_lt (signed xs) (signed ys)
  pub one_answer : less_by_difference xs ys ≡ signed_less xs ys
