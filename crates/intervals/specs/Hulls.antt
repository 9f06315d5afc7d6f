-- What the calls that build a hull answer.
use Rattle.std.specs.Prelude.{ℤ, List}
use Rattle.std.specs.List.{fold}
use Rattle.std.specs.Int.{int_min, int_max}
use Rattle.intervals.specs.Ends.{Ends}
use Rattle.intervals.specs.declared.hull.Hull.{Hull}

-- the ends so far
abbrev pub reached : Hull → Ends
reached h = record { lo = h.lo; hi = h.hi }

-- these ends, moved apart to hold each of these numbers
abbrev pub extended : Ends → List ℤ → Ends
extended e xs = record { lo = fold int_min e.lo xs; hi = fold int_max e.hi xs }
