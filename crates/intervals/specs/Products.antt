-- Products of ends.
use Rattle.std.specs.Prelude.{◌≡◌, ℤ, pos, negsuc, ◌<ℤ◌, ◌-◌, ◌^◌, ◌⊎◌, Option, MatchOption}

-- no interval holds the number
abbrev pub IsFar : ℤ → Type 0
IsFar z = (z <ℤ negsuc (2 ^ 63 - 1)) ⊎ (pos (2 ^ 64 - 1) <ℤ z)

-- the number, and none only where no interval holds it
abbrev pub IsProduct : Option ℤ → ℤ → Type 0
IsProduct result z = MatchOption result (IsFar z) (λ x. x ≡ z)
