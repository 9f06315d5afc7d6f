-- That the rules are sound.
use Rattle.std.specs.Prelude.{◌≡◌, ℤ, pos, ◌≤ℤ◌, ◌<ℤ◌, ◌+ℤ◌, ◌*ℤ◌, List, length}
use Rattle.std.specs.List.{AllByRecursion}
use Rattle.intervals.specs.Ends.{Ends, Holds}
use Rattle.intervals.specs.Numbers.{quotient, remainder, size, total}
use Rattle.intervals.specs.Rules.{hull, multiple}

-- whatever number a holds, the value for it is in the range of the rule
abbrev pub IsSound : (Ends → Ends) → (ℤ → ℤ) → Type 0
IsSound rule value = (a : Ends) (x : ℤ) → Holds a x → Holds (rule a) (value x)

-- whatever numbers a and b hold, the value for them is in the range of the rule
abbrev pub AreSound : (Ends → Ends → Ends) → (ℤ → ℤ → ℤ) → Type 0
AreSound rule value = (a b : Ends) (x y : ℤ) → Holds a x → Holds b y → Holds (rule a b) (value x y)

-- the hull of two ranges holds the numbers of both
pub record HoldsBoth (a b : Ends) : Type 0 where
  pub left : (x : ℤ) → Holds a x → Holds (hull a b) x
  pub right : (x : ℤ) → Holds b x → Holds (hull a b) x

-- the sum of some numbers of a is in the multiple by how many they are
abbrev pub TotalIsSound : Type 0
TotalIsSound = (a : Ends) (xs : List ℤ) → AllByRecursion (Holds a) xs → Holds (multiple (length xs) a) (total xs)

-- quotient and remainder of a by b: together they are a; the remainder has the sign of a, and is smaller than b where b isn't 0
pub record Divides (a b : ℤ) : Type 0 where
  pub whole : a ≡ (quotient a b *ℤ b) +ℤ remainder a b
  pub not_below : pos 0 ≤ℤ a → pos 0 ≤ℤ remainder a b
  pub not_above : a ≤ℤ pos 0 → remainder a b ≤ℤ pos 0
  pub smaller : ¬ (b ≡ pos 0) → size (remainder a b) <ℤ size b

-- by 0 the quotient is 0, and the remainder is the dividend
pub record DividesByZero (a : ℤ) : Type 0 where
  pub none : quotient a (pos 0) ≡ pos 0
  pub all : remainder a (pos 0) ≡ a
