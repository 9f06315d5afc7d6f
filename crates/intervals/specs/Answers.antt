-- What the calls answer.
use Rattle.std.specs.Prelude.{◌≡◌, ◌≤ℤ◌, ◌<ℤ◌, ◌⊎◌, Option, MatchOption}
use Rattle.intervals.specs.declared.interval.Interval.{Interval}
use Rattle.intervals.specs.Ends.{Ends, IsWide}

-- the ends of an interval
abbrev pub ends : Interval → Ends
ends i = record { lo = i.lo; hi = i.hi }

-- the interval with these ends, and none exactly where they are wide
abbrev pub IsInterval : Option Interval → Ends → Type 0
IsInterval result e = MatchOption result (IsWide e) (λ i. (ends i ≡ e) × ¬ (IsWide e))

-- the interval with these ends, and none exactly where they are out of order or wide
abbrev pub IsNew : Option Interval → Ends → Type 0
IsNew result e =
    MatchOption result ((e.hi <ℤ e.lo) ⊎ IsWide e) (λ i. (ends i ≡ e) × (e.lo ≤ℤ e.hi) × ¬ (IsWide e))
