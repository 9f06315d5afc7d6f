-- Quotients and remainders of lists of digits, digit by digit from the highest down.
use Rattle.std.specs.Prelude.{◌≡◌, ◌+◌, ◌/◌, ◌%◌, ◌<◌, Bool, false, List, [], ◌∷◌, ◌++◌, length, replicate, take, int_div, int_rem}
use Rattle.expand_api.specs.Digits.Values.{natural, sign, signed}
use Rattle.expand_api.specs.Digits.Sums.{exclusive_or, difference, no_borrow, negation_where, absolute}
use Rattle.expand_api.specs.Digits.Comparisons.{equal}
use Rattle.expand_api.specs.Digits.Choices.{choice}

-- a quotient with its remainder
pub record Division : Type 0 where
  pub quotient : List Bool
  pub remainder : List Bool

-- the next lower digit x of the dividend comes below the remainder so far; where the divisor fits into that it is
-- subtracted (restoring division), and the quotient's next digit is whether it fits
abbrev pub divided_further : Bool → Division → List Bool → Division
divided_further x d divisor =
    let grown = x ∷ d.remainder in
    let wide = divisor ++ false ∷ [] in
    let fits = no_borrow grown wide in
    record { quotient = fits ∷ d.quotient; remainder = take (length divisor) (choice fits (difference grown wide) grown) }

-- xs divided by a divisor that isn't 0, both without a sign
abbrev pub division : List Bool → List Bool → Division
division [] divisor = record { quotient = []; remainder = replicate (length divisor) false }
division (x ∷ xs) divisor = divided_further x (division xs divisor) divisor

-- whether all digits are false
abbrev pub is_zero : List Bool → Bool
is_zero xs = equal xs (replicate (length xs) false)

-- xs / ys in two's complement with one digit more, truncated toward zero; by 0 it is 0
abbrev pub quotient : List Bool → List Bool → List Bool
quotient xs ys =
    choice (is_zero ys) (replicate (length xs + 1) false)
    (negation_where (exclusive_or (sign xs) (sign ys)) ((division (absolute xs) (absolute ys)).quotient ++ false ∷ []))

-- xs % ys in two's complement, with the sign of xs; by 0 it is xs
abbrev pub remainder : List Bool → List Bool → List Bool
remainder xs ys = choice (is_zero ys) xs (negation_where (sign xs) (division (absolute xs) (absolute ys)).remainder)

-- ---- laws

-- division without a sign
pub record DividesNaturals (xs ys : List Bool) : Type 0 where
  pub quotient_length : length (division xs ys).quotient ≡ length xs
  pub remainder_length : length (division xs ys).remainder ≡ length ys
  pub divided : 0 < natural ys → natural (division xs ys).quotient ≡ natural xs / natural ys
  pub left_over : 0 < natural ys → natural (division xs ys).remainder ≡ natural xs % natural ys

-- division in two's complement of two lists of one length
pub record DividesSigned (xs ys : List Bool) : Type 0 where
  pub quotient_length : length (quotient xs ys) ≡ length xs + 1
  pub remainder_length : length (remainder xs ys) ≡ length xs
  pub truncated : signed (quotient xs ys) ≡ int_div (signed xs) (signed ys)
  pub left_over : signed (remainder xs ys) ≡ int_rem (signed xs) (signed ys)
