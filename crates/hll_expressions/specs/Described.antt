-- What is known of an expression without faults, and what the definitions say of it.
use Rattle.std.specs.Prelude.{◌≡◌, ℕ, ℤ, Bool, true, false, List, [], ◌∷◌, map, Option, Some, None, Result, MatchResult, MatchOption}
use Rattle.std.specs.Borrow.{Bor}
use Rattle.std.specs.List.{flat_map}
use Rattle.intervals.specs.declared.interval.Interval.{Interval}
use Rattle.hll_meaning.specs.declared.ty.Ty.{Ty}
use Rattle.hll_meaning.specs.Kinds.{Kind, truth, whole, IsOf}
use Rattle.hll_meaning.specs.Types.{ends, kind_of}
use Rattle.hll_meaning.specs.Values.{number}
use Rattle.hll_meaning.specs.Fitting.{is_scalar, group_of}
use Rattle.hll_meaning.specs.Judging.{Judged, given_whole, group_fits, wants_truth, wants_whole, wants_scalar}
use Rattle.hll_expressions.specs.declared.faults.StaticFault.{StaticFault}
use Rattle.hll_expressions.specs.declared.given.Given.{Given, Given-F, fold-Given, out-Given}
use Rattle.hll_expressions.specs.Answers.{IsFaultAt}

-- a form of what is known, by that of its parts
abbrev pub known_form : Given-F Judged → Judged
known_form (Given-F.Whole at kind x) = given_whole at [] (kind_of kind) []
known_form (Given-F.Group at parts) = record { at = at; faults = []; kind = group_of (map (λ j. j.kind) parts); value = []; fits = group_fits at parts }
known_form (Given-F.Choice at kind branches) = record { at = at; faults = []; kind = kind_of kind; value = []; fits = λ wanted. flat_map (λ j. j.fits wanted) branches }

-- what is known of an expression, but for its value
unfoldable pub known : Given → Judged
known = fold-Given Judged known_form

-- the number of one level
abbrev pub number_in : Given-F Given → Option ℤ
number_in (Given-F.Whole at kind x) = x
number_in (Given-F.Group at parts) = None
number_in (Given-F.Choice at kind branches) = None

-- the number of a constant
unfoldable pub number_of : Given → Option ℤ
number_of g = number_in (out-Given g)

-- a number is the value of one cell, and the value is one of the kind
pub record IsWorth (x : Option ℤ) (j : Judged) : Type 0 where
  pub cell : is_scalar j.kind ≡ true
  pub same : x ≡ Some (number j.value)
  pub lies : IsOf j.kind j.value

-- What is known describes an expression: it has no faults, its place, its kind and what it may be given to are known, and its
-- number, where a constant is needed.
pub record Describes (needs : Bool) (g : Given) (j : Judged) : Type 0 where
  pub faultless : j.faults ≡ []
  pub place : (known g).at ≡ j.at
  pub kind : (known g).kind ≡ j.kind
  pub fits : (wanted : Kind) → (known g).fits wanted ≡ j.fits wanted
  pub worth : needs ≡ true → IsWorth (number_of g) j

-- each of them describes one
abbrev pub DescribeAll : Bool → List Given → List Judged → Type 0
DescribeAll needs [] [] = Unit {0}
DescribeAll needs [] (j ∷ js) = ⊥
DescribeAll needs (g ∷ gs) [] = ⊥
DescribeAll needs (g ∷ gs) (j ∷ js) = Describes needs g j × DescribeAll needs gs js

-- Ok where there are no faults, and then what is answered describes the expression; else the first fault
abbrev pub IsAnswer : Bool → Judged → Result Given StaticFault → Type 0
IsAnswer needs j result = MatchResult result (λ g. Describes needs g j) (IsFaultAt j.faults)

-- given whole, at a place, with a kind and a number
pub record IsWhole (at : ℕ) (k : Kind) (x : Option ℤ) (g : Given) : Type 0 where
  pub same : known g ≡ given_whole at [] k []
  pub numbered : number_of g ≡ x

-- the kind of a list stands nowhere, or it stands there
abbrev pub IsOwnKind : Judged → Option Ty → Type 0
IsOwnKind j result = MatchOption result (is_scalar j.kind ≡ false) (λ t. kind_of t ≡ j.kind)

-- a whole number is wanted
abbrev pub WantsWhole : Judged → Result Interval StaticFault → Type 0
WantsWhole j result = MatchResult result (λ i. j.kind ≡ whole (ends i)) (IsFaultAt (wants_whole j))

-- a truth value is wanted
abbrev pub WantsTruth : Judged → Result Unit StaticFault → Type 0
WantsTruth j result = MatchResult result (λ u. j.kind ≡ truth) (IsFaultAt (wants_truth j))

-- one cell is wanted
abbrev pub WantsScalar : Judged → Result (Bor Ty) StaticFault → Type 0
WantsScalar j result = MatchResult result (λ t. (is_scalar j.kind ≡ true) × (kind_of t.now ≡ j.kind)) (IsFaultAt (wants_scalar j))
