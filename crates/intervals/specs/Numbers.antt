-- Operations on whole numbers, and the least number of a kind.
use Rattle.std.specs.Prelude.{ℕ, ◌-◌, ◌^◌, ◌<◌, ◌≤◌, ℤ, pos, neg_ℤ, ◌+ℤ◌, unsigned_abs, List, [], ◌∷◌, ◌≤ℤ◌, ◌<ℤ◌, ◌-ℤ◌, int_div, int_rem}
use Rattle.intervals.specs.Ends.{Ends}

-- a / b, truncated toward zero; by 0 it is 0
abbrev pub quotient : ℤ → ℤ → ℤ
quotient a b = int_div a b

-- a % b, with the sign of a; by 0 it is a
abbrev pub remainder : ℤ → ℤ → ℤ
remainder a b = int_rem a b

-- the sum of some numbers
abbrev pub total : List ℤ → ℤ
total [] = pos 0
total (x ∷ xs) = x +ℤ total xs

-- without its sign
abbrev pub size : ℤ → ℤ
size x = pos (unsigned_abs x)

-- n is the least number with P
pub record IsLeast (P : ℕ → Type 0) (n : ℕ) : Type 0 where
  pub holds : P n
  pub least : (m : ℕ) → P m → n ≤ m

-- n binary digits are enough for m
abbrev pub HasDigits : ℕ → ℕ → Type 0
HasDigits m n = m < 2 ^ n

-- n binary digits are enough for the distance of the ends
abbrev pub DistanceHasDigits : Ends → ℕ → Type 0
DistanceHasDigits e n = (e.hi -ℤ e.lo) <ℤ pos (2 ^ n)

-- both ends are numbers of n binary digits with a sign: -2^(n-1) to 2^(n-1) - 1
pub record HasSignedDigits (e : Ends) (n : ℕ) : Type 0 where
  pub some : 1 ≤ n
  pub above : neg_ℤ (pos (2 ^ (n - 1))) ≤ℤ e.lo
  pub below : e.hi <ℤ pos (2 ^ (n - 1))
