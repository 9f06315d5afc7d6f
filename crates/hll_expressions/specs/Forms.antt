-- Words for the contracts of private parts: what the definitions say of forms, and what is answered of them.
use Rattle.std.specs.Prelude.{◌≡◌, ℕ, ℤ, Bool, true, false, not, List, [], ◌++◌, map, Option, Result, MatchResult}
use Rattle.std.specs.Borrow.{Bor}
use Rattle.std.specs.List.{flat_map}
use Rattle.intervals.specs.Answers.{IsInterval}
use Rattle.intervals.specs.Ends.{Ends}
use Rattle.intervals.specs.Rules.{smaller, greater}
use Rattle.intervals.specs.declared.interval.Interval.{Interval}
use Rattle.hll_tree.specs.declared.tree.Cmp.{Cmp}
use Rattle.hll_tree.specs.declared.tree.Quant.{Quant}
use Rattle.hll_meaning.specs.declared.ty.Ty.{Ty}
use Rattle.hll_meaning.specs.Kinds.{truth, whole}
use Rattle.hll_meaning.specs.Types.{ends, kind_of}
use Rattle.hll_meaning.specs.Values.{of_number, of_truth, number, is_true, compared, least, greatest}
use Rattle.hll_meaning.specs.Fitting.{is_scalar, is_wide}
use Rattle.hll_meaning.specs.Judging.{Context, Judged, Ranged, given_whole, wide_at, no_constant, wants_truth, wants_whole, wants_kind_of, all_faults, comparison_faults, made_of, made_of_all, bounds_of, quantified_at}
use Rattle.hll_expressions.specs.declared.choice.Branches.{Branches}
use Rattle.hll_expressions.specs.declared.faults.StaticFault.{StaticFault}
use Rattle.hll_expressions.specs.declared.given.Given.{Given}
use Rattle.hll_expressions.specs.Answers.{IsFaultAt}
use Rattle.hll_expressions.specs.Choices.{AreBranches}
use Rattle.hll_expressions.specs.Described.{Describes, DescribeAll, IsAnswer, IsWhole}

-- ---- forms

-- a number
abbrev pub number_said : ℕ → ℤ → Judged
number_said at n = given_whole at (wide_at (record { lo = n; hi = n }) at) (whole (record { lo = n; hi = n })) (of_number n)

-- the other truth value
abbrev pub not_said : ℕ → Judged → Judged
not_said at j = given_whole at (j.faults ++ wants_truth j) truth (of_truth (not (is_true j.value)))

-- a comparison
abbrev pub compared_said : ℕ → Cmp → Judged → Judged → Judged
compared_said at o a b = given_whole at (a.faults ++ (b.faults ++ comparison_faults o a b)) truth (of_truth (compared o (number a.value) (number b.value)))

-- whether a number lies in a range
abbrev pub within_said : Context → ℕ → Judged → Judged
within_said c at j = given_whole at (j.faults ++ (wants_whole j ++ no_constant c at)) truth []

-- the least or the greatest of some numbers
abbrev pub extreme_said : ℕ → Bool → List Judged → Judged
extreme_said at true js = made_of_all at js greater (greatest (map (λ j. j.value) js))
extreme_said at false js = made_of_all at js smaller (least (map (λ j. j.value) js))

-- ---- answers

-- a whole number with the range of an operation
abbrev pub IsWholeNumber : ℕ → Option Interval → Option ℤ → Result Given StaticFault → Type 0
IsWholeNumber at i x result = (e : Ends) → IsInterval i e → MatchResult result (λ g. (is_wide e ≡ false) × IsWhole at (whole e) x g) (IsFaultAt (wide_at e at))

-- a whole number that is made of one
abbrev pub IsMadeOf : ℕ → Given → (Ends → Ends) → (ℤ → ℤ) → Result Given StaticFault → Type 0
IsMadeOf at g rule value result = (needs : Bool) (j : Judged) → Describes needs g j → IsAnswer needs (made_of at j rule value) result

-- something of the kind of another cell
abbrev pub IsKindWanted : Ty → Given → Result (Bor Ty) StaticFault → Type 0
IsKindWanted t g result =
    (needs : Bool) (a j : Judged) → is_scalar a.kind ≡ true → kind_of t ≡ a.kind → Describes needs g j →
    MatchResult result (λ own. (wants_kind_of a j ≡ []) × (kind_of own.now ≡ j.kind)) (IsFaultAt (wants_kind_of a j))

-- the range of two bounds
abbrev pub AreBounds : Given → Given → Result Interval StaticFault → Type 0
AreBounds lowest highest result =
    (a b : Judged) → Describes true lowest a → Describes true highest b →
    MatchResult result (λ i. ((bounds_of a b).faults ≡ []) × (whole (ends i) ≡ (bounds_of a b).kind)) (IsFaultAt (bounds_of a b).faults)

-- the kind of a domain, which is one cell
abbrev pub IsDomain : Ranged → Result Ty StaticFault → Type 0
IsDomain d result = MatchResult result (λ t. (d.faults ≡ []) × (kind_of t ≡ d.kind) × (is_scalar d.kind ≡ true)) (IsFaultAt d.faults)

-- a quantifier over a domain
abbrev pub IsQuantified : ℕ → Quant → Ty → Given → Bool → Result Given StaticFault → Type 0
IsQuantified at q t g needs result =
    (c : Context) (d : Ranged) (j : Judged) → c.needs_constant ≡ needs → d.faults ≡ [] → kind_of t ≡ d.kind → is_scalar d.kind ≡ true → Describes needs g j →
    IsAnswer needs (quantified_at c at q [] d (λ inside. j)) result

-- expressions one after the other
abbrev pub AreJudged : Bool → List Judged → Result (List Given) StaticFault → Type 0
AreJudged needs js result = MatchResult result (λ gs. DescribeAll needs gs js) (IsFaultAt (all_faults js))

-- the branches of an `if`
abbrev pub AreJudgedBranches : Bool → List (Judged × Judged) → Result Branches StaticFault → Type 0
AreJudgedBranches needs bs result = MatchResult result (λ b. AreBranches needs b.conditions b.branches bs) (IsFaultAt (flat_map (λ b. b.0.faults ++ b.1.faults) bs))
