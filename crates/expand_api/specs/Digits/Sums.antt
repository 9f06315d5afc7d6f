-- Sums of lists of digits, digit by digit from the lowest up, and what is made of them.
use Rattle.std.specs.Prelude.{◌≡◌, ℕ, ◌+◌, ◌*◌, ◌^◌, ◌<◌, ◌≤◌, Bool, true, false, not, ◌&&◌, ◌||◌, List, [], ◌∷◌, ◌++◌, length, replicate, take, slice_index_or, pos, neg_ℤ, ◌+ℤ◌, ◌-ℤ◌, unsigned_abs}
use Rattle.expand_api.specs.Digits.Values.{digit, natural, sign, signed, complement, extended, IsSigned, IsCongruent}
use Rattle.expand_api.specs.Digits.Choices.{choice}

-- exclusive or
abbrev pub exclusive_or : Bool → Bool → Bool
exclusive_or true y = not y
exclusive_or false y = y

-- whether two of three are true at least
abbrev pub majority : Bool → Bool → Bool → Bool
majority true y z = y || z
majority false y z = y && z

-- the digits of the sum, which is what a row of full adders makes (ripple carry)
abbrev pub sum : List Bool → List Bool → Bool → List Bool
sum [] ys carry = []
sum (x ∷ xs) [] carry = []
sum (x ∷ xs) (y ∷ ys) carry = exclusive_or (exclusive_or x y) carry ∷ sum xs ys (majority x y carry)

-- the carry out of its highest digit
abbrev pub carry_out : List Bool → List Bool → Bool → Bool
carry_out [] ys carry = carry
carry_out (x ∷ xs) [] carry = carry
carry_out (x ∷ xs) (y ∷ ys) carry = carry_out xs ys (majority x y carry)

-- xs - ys, as the sum of xs, the complement of ys and 1
abbrev pub difference : List Bool → List Bool → List Bool
difference xs ys = sum xs (complement ys) true

-- whether xs - ys needs no borrow
abbrev pub no_borrow : List Bool → List Bool → Bool
no_borrow xs ys = carry_out xs (complement ys) true

-- -xs
abbrev pub negation : List Bool → List Bool
negation xs = difference (replicate (length xs) false) xs

-- -xs where c is true, and else xs
abbrev pub negation_where : Bool → List Bool → List Bool
negation_where c xs = choice c (negation xs) xs

-- the absolute value of a number in two's complement, without a sign
abbrev pub absolute : List Bool → List Bool
absolute xs = negation_where (sign xs) xs

-- the digits s of a sum and its carries, each given by the digits at one place: s is the exclusive or of two digits and the
-- carry into their place, and the next carry is the majority of these
pub record IsSum (xs ys : List Bool) (carry : Bool) (s : List Bool) (carries : ℕ → Bool) : Type 0 where
  pub as_long : length ys ≡ length xs
  pub as_many : length s ≡ length xs
  pub first : carries 0 ≡ carry
  pub further :
      (i : ℕ) → i < length xs →
      carries (i + 1) ≡ majority (slice_index_or xs i false) (slice_index_or ys i false) (carries i)
  pub each :
      (i : ℕ) → i < length xs →
      slice_index_or s i false ≡ exclusive_or (exclusive_or (slice_index_or xs i false) (slice_index_or ys i false)) (carries i)

-- ---- laws

-- a full adder
abbrev pub AddsDigits : Bool → Bool → Bool → Type 0
AddsDigits x y z = digit (exclusive_or (exclusive_or x y) z) + 2 * digit (majority x y z) ≡ digit x + digit y + digit z

-- one digit more at the high end
pub record GrowsSum (xs ys : List Bool) (carry x y : Bool) : Type 0 where
  pub sum_digit : sum (xs ++ x ∷ []) (ys ++ y ∷ []) carry ≡ sum xs ys carry ++ exclusive_or (exclusive_or x y) (carry_out xs ys carry) ∷ []
  pub next_carry : carry_out (xs ++ x ∷ []) (ys ++ y ∷ []) carry ≡ majority x y (carry_out xs ys carry)

-- digits and carries that are those of a sum place by place are those of the sum
pub record IsSumOf (xs ys : List Bool) (carry : Bool) (s : List Bool) (carries : ℕ → Bool) : Type 0 where
  pub digits : s ≡ sum xs ys carry
  pub last : carries (length xs) ≡ carry_out xs ys carry

-- the carry into a place of the sum: the carry out of the digits below it
abbrev pub carry_into : List Bool → List Bool → Bool → ℕ → Bool
carry_into xs ys carry i = carry_out (take i xs) (take i ys) carry

-- what n digits and the carry out say of the sum of numbers of n digits without a sign
pub record AddsNaturals (xs ys : List Bool) (carry : Bool) : Type 0 where
  pub as_many : length (sum xs ys carry) ≡ length xs
  pub whole : natural (sum xs ys carry) + digit (carry_out xs ys carry) * 2 ^ length xs ≡ natural xs + natural ys + digit carry
  pub one_more : natural (sum xs ys carry ++ carry_out xs ys carry ∷ []) ≡ natural xs + natural ys + digit carry

-- the sum of numbers of n digits in two's complement: right but for a multiple of 2^n, right where it is a number of n
-- digits, and right with one digit more where there is one
pub record AddsSigned (xs ys : List Bool) (carry : Bool) : Type 0 where
  pub modulo : IsCongruent (2 ^ length xs) (signed (sum xs ys carry)) ((signed xs +ℤ signed ys) +ℤ pos (digit carry))
  pub exact :
      IsSigned (length xs) ((signed xs +ℤ signed ys) +ℤ pos (digit carry)) →
      signed (sum xs ys carry) ≡ (signed xs +ℤ signed ys) +ℤ pos (digit carry)
  pub one_more : 0 < length xs → signed (sum (extended 1 xs) (extended 1 ys) carry) ≡ (signed xs +ℤ signed ys) +ℤ pos (digit carry)

-- the difference, in the same way
pub record Subtracts (xs ys : List Bool) : Type 0 where
  pub as_many : length (difference xs ys) ≡ length xs
  pub modulo : IsCongruent (2 ^ length xs) (signed (difference xs ys)) (signed xs -ℤ signed ys)
  pub exact : IsSigned (length xs) (signed xs -ℤ signed ys) → signed (difference xs ys) ≡ signed xs -ℤ signed ys
  pub one_more : signed (difference (extended 1 xs) (extended 1 ys)) ≡ signed xs -ℤ signed ys

-- the difference of numbers without a sign, where it is one
abbrev pub SubtractsNaturals : List Bool → List Bool → Type 0
SubtractsNaturals xs ys = natural ys ≤ natural xs → natural (difference xs ys) + natural ys ≡ natural xs

-- negation, in the same way
pub record Negates (xs : List Bool) : Type 0 where
  pub as_many : length (negation xs) ≡ length xs
  pub modulo : IsCongruent (2 ^ length xs) (signed (negation xs)) (neg_ℤ (signed xs))
  pub exact : IsSigned (length xs) (neg_ℤ (signed xs)) → signed (negation xs) ≡ neg_ℤ (signed xs)
  pub one_more : signed (negation (extended 1 xs)) ≡ neg_ℤ (signed xs)

-- the absolute value needs no digit more, since it has no sign
pub record TakesAbsolute (xs : List Bool) : Type 0 where
  pub as_many : length (absolute xs) ≡ length xs
  pub size : natural (absolute xs) ≡ unsigned_abs (signed xs)
