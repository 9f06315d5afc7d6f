-- The counts that a port keeps, and when it may answer that it failed.
use Rattle.std.specs.Prelude.{◌≡◌, ◌≢◌, ℕ, ◌+◌, ◌-◌, ◌^◌, ◌≤◌, min, List, Result, Err}

-- the greatest value of a count, at which it stands still
abbrev pub last_count : ℕ
last_count = 2 ^ 64 - 1

-- a count rose by so many
abbrev pub RoseBy : ℕ → ℕ → ℕ → Type 0
RoseBy n before now = (before ≤ now) × (now ≡ min (before + n) last_count)

-- a count of faults rose
abbrev pub Rose : ℕ → ℕ → Type 0
Rose before now = (min (before + 1) last_count ≤ now) × (now ≤ last_count)

-- a call leaves a count of faults no lower, and answers this fault only where the count rose in this call
pub record HasCause {T E : Type 0} (fault : E) (before now : ℕ) (result : Result T E) : Type 0 where
  pub later : before ≤ now
  pub failed : result ≡ Err fault → Rose before now

-- a count for each name of a file
abbrev pub Counts : Type 0
Counts = List ℕ → ℕ

-- a call on one file leaves the counts of all files alone
abbrev pub SameCounts : Counts → Counts → Type 0
SameCounts before now = (name : List ℕ) → now name ≡ before name

-- a call on one file leaves the counts of all others alone
abbrev pub SameOtherCounts : List ℕ → Counts → Counts → Type 0
SameOtherCounts name before now = (other : List ℕ) → other ≢ name → now other ≡ before other
