-- Lists of binary digits, lowest digit first, and the numbers that they spell.
use Rattle.std.specs.Prelude.{◌≤◌, ◌≡◌, ℕ, zero, suc, ◌+◌, ◌*◌, ◌/◌, ◌%◌, ◌^◌, ◌<◌, Bool, true, false, not, List, [], ◌∷◌, ◌++◌, map, length, take, replicate, ℤ, pos, negsuc, neg_ℤ, ◌+ℤ◌, ◌-ℤ◌, ◌*ℤ◌, ◌≤ℤ◌, ◌<ℤ◌, ◌==◌, ◌↔◌, int_lt, unsigned_abs}

-- 1 for true, 0 for false
abbrev pub digit : Bool → ℕ
digit true = 1
digit false = 0

-- the number that digits spell without a sign
abbrev pub natural : List Bool → ℕ
natural [] = 0
natural (x ∷ xs) = digit x + 2 * natural xs

-- the last of these, or x where there is none
abbrev pub last_or : Bool → List Bool → Bool
last_or x [] = x
last_or x (y ∷ ys) = last_or y ys

-- the highest digit, which is the sign in two's complement
abbrev pub sign : List Bool → Bool
sign xs = last_or false xs

-- the number that digits spell in two's complement: 2^n less where the highest of n digits is true
abbrev pub signed : List Bool → ℤ
signed xs = pos (natural xs) -ℤ pos (digit (sign xs) * 2 ^ length xs)

-- v is a number of n digits in two's complement, from -2^(n-1) to 2^(n-1) - 1; of no digits there is 0 alone
pub record IsSigned (n : ℕ) (v : ℤ) : Type 0 where
  pub above : neg_ℤ (pos (2 ^ n)) ≤ℤ (v +ℤ v)
  pub below : (v +ℤ v) <ℤ pos (2 ^ n)

-- u and v differ by a multiple of p
pub record IsCongruent (p : ℕ) (u v : ℤ) : Type 0 where
  pub times : ℤ
  pub same : u ≡ v +ℤ (times *ℤ pos p)

-- the opposite of each digit
abbrev pub complement : List Bool → List Bool
complement xs = map not xs

-- the n lowest digits of v
abbrev pub digits : ℕ → ℕ → List Bool
digits zero v = []
digits (suc n) v = (v % 2 == 1) ∷ digits n (v / 2)

-- the n lowest digits of v in two's complement: those of -(v + 1) are the opposites of those of v
abbrev pub signed_digits : ℕ → ℤ → List Bool
signed_digits n (pos v) = digits n v
signed_digits n (negsuc v) = complement (digits n v)

-- k more digits that keep the value without a sign
abbrev pub widened : ℕ → List Bool → List Bool
widened k xs = xs ++ replicate k false

-- k more digits that keep the value in two's complement
abbrev pub extended : ℕ → List Bool → List Bool
extended k xs = xs ++ replicate k (sign xs)

-- the code of v in a cell of n digits whose lowest number is lo
abbrev pub code : ℕ → ℤ → ℤ → List Bool
code n lo v = digits n (unsigned_abs (v -ℤ lo))

-- the number of a code
abbrev pub decoded : ℤ → List Bool → ℤ
decoded lo xs = lo +ℤ pos (natural xs)

-- ---- laws

-- the value of a list is a number of its length
pub record HasRange (xs : List Bool) : Type 0 where
  pub without_sign : natural xs < 2 ^ length xs
  pub with_sign : IsSigned (length xs) (signed xs)

-- two lists of one length with one value are equal
pub record IsUnique (xs ys : List Bool) : Type 0 where
  pub without_sign : natural xs ≡ natural ys → xs ≡ ys
  pub with_sign : signed xs ≡ signed ys → xs ≡ ys

-- the n digits of a number spell it where it is a number of n digits, and else what is left of it modulo 2^n
pub record SpellsNatural (n v : ℕ) : Type 0 where
  pub as_many : length (digits n v) ≡ n
  pub spelled : v < 2 ^ n → natural (digits n v) ≡ v
  pub modulo : natural (digits n v) ≡ v % 2 ^ n

-- the n digits of a number in two's complement spell it where it is a number of n digits
pub record SpellsSigned (n : ℕ) (v : ℤ) : Type 0 where
  pub as_many : length (signed_digits n v) ≡ n
  pub spelled : IsSigned n v → signed (signed_digits n v) ≡ v

-- a list is the one list of its length for its value
pub record IsSpelled (xs : List Bool) : Type 0 where
  pub without_sign : digits (length xs) (natural xs) ≡ xs
  pub with_sign : signed_digits (length xs) (signed xs) ≡ xs

-- a code gives its number back
abbrev pub KeepsNumber : ℕ → ℤ → ℤ → Type 0
KeepsNumber n lo v = lo ≤ℤ v → (v -ℤ lo) <ℤ pos (2 ^ n) → decoded lo (code n lo v) ≡ v

-- the lowest digits of a list that spells v - lo are the code of v
abbrev pub CutsCode : ℕ → ℤ → ℤ → List Bool → Type 0
CutsCode n lo v xs = lo ≤ℤ v → (v -ℤ lo) <ℤ pos (2 ^ n) → n ≤ length xs → signed xs ≡ v -ℤ lo → take n xs ≡ code n lo v

-- a number gives its code back
abbrev pub KeepsCode : ℤ → List Bool → Type 0
KeepsCode lo xs = code (length xs) lo (decoded lo xs) ≡ xs

-- extension keeps the value; with one digit at least a number without a sign becomes one in two's complement
pub record KeepsValue (k : ℕ) (xs : List Bool) : Type 0 where
  pub without_sign : natural (widened k xs) ≡ natural xs
  pub with_sign : signed (extended k xs) ≡ signed xs
  pub made_signed : 0 < k → signed (widened k xs) ≡ pos (natural xs)

-- the k lowest digits keep a value that is a number of k digits
pub record CutsValue (k : ℕ) (xs : List Bool) : Type 0 where
  pub without_sign : natural xs < 2 ^ k → natural (take k xs) ≡ natural xs
  pub with_sign : IsSigned k (signed xs) → signed (take k xs) ≡ signed xs

-- the two values of a list: they agree where its sign digit is false
pub record HasSign (xs : List Bool) : Type 0 where
  pub negative : sign xs ≡ int_lt (signed xs) (pos 0)
  pub not_negative : sign xs ≡ false → signed xs ≡ pos (natural xs)
  pub modulo : IsCongruent (2 ^ length xs) (signed xs) (pos (natural xs))

-- the ends of the numbers of n + 1 digits
abbrev pub HasEnds : ℕ → ℤ → Type 0
HasEnds n v = IsSigned (n + 1) v ↔ ((neg_ℤ (pos (2 ^ n)) ≤ℤ v) × (v <ℤ pos (2 ^ n)))

-- numbers of n digits that differ by a multiple of 2^n are equal
abbrev pub IsExact : ℕ → ℤ → ℤ → Type 0
IsExact n u v = IsSigned n u → IsSigned n v → IsCongruent (2 ^ n) u v → u ≡ v
