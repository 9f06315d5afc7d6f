-- Pairs of ends over whole numbers without bounds, and when they are wide.
use Rattle.std.specs.Prelude.{ℤ, pos, negsuc, ◌≤ℤ◌, ◌<ℤ◌, ◌-◌, ◌^◌, ◌⊎◌}

-- the whole numbers from lo to hi
pub record Ends : Type 0 where
  pub lo : ℤ
  pub hi : ℤ

-- x is one of the numbers from lo to hi
pub record Holds (e : Ends) (x : ℤ) : Type 0 where
  pub above : e.lo ≤ℤ x
  pub below : x ≤ℤ e.hi

-- some of the numbers aren't from low to high
abbrev pub Leaves : ℤ → ℤ → Ends → Type 0
Leaves low high e = (e.lo <ℤ low) ⊎ (high <ℤ e.hi)

-- they lie neither in 0 to 2^64 - 1 nor in -2^63 to 2^63 - 1
abbrev pub IsWide : Ends → Type 0
IsWide e = Leaves (pos 0) (pos (2 ^ 64 - 1)) e × Leaves (negsuc (2 ^ 63 - 1)) (pos (2 ^ 63 - 1)) e
