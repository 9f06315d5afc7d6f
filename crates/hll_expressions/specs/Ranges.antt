-- The ranges of scalar expressions by their places, as they are noted.
use Rattle.std.specs.Prelude.{◌≡◌, ℕ, true, false, List, [], ◌∷◌, ◌++◌, map, Option, Some, None, MatchOption, if◌then◌else◌}
use Rattle.intervals.specs.declared.interval.Interval.{Interval}
use Rattle.hll_tree.specs.declared.tree.Expr.{Expr}
use Rattle.hll_meaning.specs.Kinds.{Kind}
use Rattle.hll_meaning.specs.Types.{ends}
use Rattle.hll_meaning.specs.Fitting.{is_scalar, ends_of}
use Rattle.hll_meaning.specs.Judging.{Context, In}
use Rattle.hll_meaning.specs.Nodes.{Placed as PlacedRange, node_at, own_range, ranges}
use Rattle.hll_expressions.specs.declared.ranges.Placed.{Placed}
use Rattle.hll_expressions.specs.declared.ranges.Ranges.{Ranges}

-- a place with its range
abbrev pub placed : Placed → PlacedRange
placed p = record { at = p.at; range = ends p.range }

-- what is noted, in the order in which it was
abbrev pub noted_in : Ranges → List PlacedRange
noted_in r = map placed r.list.items

-- the range of what stands at a place, where its kind is scalar
abbrev pub range_at : ℕ → Kind → List PlacedRange
range_at at k = if is_scalar k then record { at = at; range = ends_of k } ∷ [] else []

-- the range of a kind, where it is scalar
abbrev pub IsRangeOf : Kind → Option Interval → Type 0
IsRangeOf k result = MatchOption result (is_scalar k ≡ false) (λ i. (is_scalar k ≡ true) × (ends i ≡ ends_of k))

-- these are noted behind what was, where anything is kept
pub record HasNoted (old new : Ranges) (rs : List PlacedRange) : Type 0 where
  pub stays : new.keeps ≡ old.keeps
  pub noted : old.keeps ≡ true → noted_in new ≡ noted_in old ++ rs

-- all ranges of an expression are noted but its own, which stands last
pub record HasNotedParts (old new : Ranges) (e : Expr) (c : Context) : Type 0 where
  pub parts : List PlacedRange
  pub last : ranges e c ≡ parts ++ own_range (node_at e c)
  pub noted : HasNoted old new parts

-- the ranges of an expression that may be missing
abbrev pub first_ranges : Option Expr → In (List PlacedRange)
first_ranges None c = []
first_ranges (Some e) c = ranges e c
