-- Products of lists of digits, row by row. The product has as many digits as the first list.
use Rattle.std.specs.Prelude.{◌≡◌, ℕ, ◌+◌, ◌*◌, ◌^◌, ◌<◌, Bool, false, ◌&&◌, List, [], ◌∷◌, length, map, replicate, ℤ, ◌*ℤ◌}
use Rattle.expand_api.specs.Digits.Values.{natural, sign, signed, widened, IsSigned, IsCongruent}
use Rattle.expand_api.specs.Digits.Sums.{exclusive_or, sum, negation, negation_where, absolute}

-- xs where c is true, and else 0
abbrev pub row : Bool → List Bool → List Bool
row c xs = map (λ x. c && x) xs

-- x below the digits of xs, of which the highest is left out
abbrev pub pushed : Bool → List Bool → List Bool
pushed x [] = []
pushed x (y ∷ ys) = x ∷ pushed y ys

-- twice xs in as many digits
abbrev pub doubled : List Bool → List Bool
doubled xs = pushed false xs

-- xs times ys, both without a sign: for each digit of ys from the highest down, twice what there is and the digit's row
abbrev pub product : List Bool → List Bool → List Bool
product xs [] = replicate (length xs) false
product xs (y ∷ ys) = sum (row y xs) (doubled (product xs ys)) false

-- xs times ys in two's complement: as without a sign, but that the row of the sign digit is subtracted (Booth's correction)
abbrev pub signed_product : List Bool → List Bool → List Bool
signed_product xs [] = replicate (length xs) false
signed_product xs (y ∷ []) = negation (row y xs)
signed_product xs (y ∷ z ∷ ys) = sum (row y xs) (doubled (signed_product xs (z ∷ ys))) false

-- xs times ys in two's complement: the product of the absolute values, negated where the signs differ
abbrev pub product_of_absolutes : List Bool → List Bool → List Bool
product_of_absolutes xs ys = negation_where (exclusive_or (sign xs) (sign ys)) (product (absolute xs) (absolute ys))

-- ---- laws

-- the product of numbers of n and of m digits is a number of n + m digits
abbrev pub HasProductRange : ℕ → ℕ → ℤ → ℤ → Type 0
HasProductRange n m u v = IsSigned n u → IsSigned m v → IsSigned (n + m) (u *ℤ v)

-- the product without a sign, where it is a number of as many digits
pub record MultipliesNaturals (xs ys : List Bool) : Type 0 where
  pub as_many : length (product xs ys) ≡ length xs
  pub exact : natural xs * natural ys < 2 ^ length xs → natural (product xs ys) ≡ natural xs * natural ys
  pub whole : natural (product (widened (length ys) xs) ys) ≡ natural xs * natural ys

-- zs is a product in two's complement of n digits: right but for a multiple of 2^n, and right where it is a number of n digits
pub record IsProduct (n : ℕ) (u v : ℤ) (zs : List Bool) : Type 0 where
  pub as_many : length zs ≡ n
  pub modulo : IsCongruent (2 ^ n) (signed zs) (u *ℤ v)
  pub exact : IsSigned n (u *ℤ v) → signed zs ≡ u *ℤ v

-- the products in two's complement: rows over the digits of an extended list, rows with that of the sign subtracted, and
-- the product of the absolute values
pub record Multiplies (xs ys : List Bool) : Type 0 where
  pub by_rows : length ys ≡ length xs → IsProduct (length xs) (signed xs) (signed ys) (product xs ys)
  pub by_sign_row : IsProduct (length xs) (signed xs) (signed ys) (signed_product xs ys)
  pub by_absolutes : IsProduct (length xs) (signed xs) (signed ys) (product_of_absolutes xs ys)
