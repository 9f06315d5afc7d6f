-- Words for the contracts of private parts: numbers of constants, where they are known.
use Rattle.std.specs.Prelude.{◌≡◌, ℕ, ℤ, pos, int_lt, Bool, true, false, not, List, [], ◌∷◌, ◌++◌, Option, Some, None, Result, MatchResult}
use Rattle.std.specs.Int.{int_min, int_max}
use Rattle.std.specs.Ordering.{int_eq}
use Rattle.intervals.specs.Ends.{Ends}
use Rattle.intervals.specs.Rules.{multiple, smaller, greater}
use Rattle.intervals.specs.declared.interval.Interval.{Interval}
use Rattle.hll_tree.specs.declared.tree.Cmp.{Cmp}
use Rattle.hll_meaning.specs.declared.fault.StaticKind.TheVariants as is
use Rattle.hll_meaning.specs.declared.ty.Ty.{Ty}
use Rattle.hll_meaning.specs.Kinds.{truth, whole}
use Rattle.hll_meaning.specs.Types.{ends, kind_of}
use Rattle.hll_meaning.specs.Values.{compared, number, of_truth}
use Rattle.hll_meaning.specs.Fitting.{ends_of, is_scalar, is_wide}
use Rattle.hll_meaning.specs.Judging.{Context, Judged, fault_if, count_of, from_to, given_whole, no_constant, wants_truth, wants_whole, wide_at}
use Rattle.hll_expressions.specs.declared.faults.StaticFault.{StaticFault}
use Rattle.hll_expressions.specs.declared.given.Given.{Given}
use Rattle.hll_expressions.specs.Answers.{IsFaultAt}
use Rattle.hll_expressions.specs.Chains.{IsNear}
use Rattle.hll_expressions.specs.Described.{Describes, DescribeAll, IsAnswer}
use Rattle.hll_expressions.specs.Forms.{extreme_said}

-- the number of a truth value
abbrev pub truth_number : Bool → ℤ
truth_number b = number (of_truth b)

-- the number that is made of one near ranges
abbrev pub Makes : (ℤ → ℤ) → Option ℤ → Option ℤ → Type 0
Makes value o result = (x : ℤ) → o ≡ Some x → IsNear x → result ≡ Some (value x)

-- the number of the other truth value
abbrev pub IsOther : Option ℤ → Option ℤ → Type 0
IsOther o result = (x : ℤ) → o ≡ Some x → result ≡ Some (truth_number (not (not (int_eq x (pos 0)))))

-- the number of a comparison
abbrev pub Compares : Cmp → Option ℤ → Option ℤ → Option ℤ → Type 0
Compares o left right result = (x y : ℤ) → left ≡ Some x → right ≡ Some y → result ≡ Some (truth_number (compared o x y))

-- the greater or the lesser of two numbers
abbrev pub extreme_of : Bool → ℤ → ℤ → ℤ
extreme_of true x y = int_max x y
extreme_of false x y = int_min x y

-- the same where both are known
abbrev pub extreme_known : Bool → Option ℤ → Option ℤ → Option ℤ
extreme_known greatest None right = None
extreme_known greatest (Some x) None = None
extreme_known greatest (Some x) (Some y) = Some (extreme_of greatest x y)

-- the same of ranges
abbrev pub extreme_range : Bool → Ends → Ends → Ends
extreme_range true a b = greater a b
extreme_range false a b = smaller a b

-- the least or the greatest of a number and others
abbrev pub IsExtreme : ℕ → Bool → Given → List Given → Result Given StaticFault → Type 0
IsExtreme at greatest first others result =
    (needs : Bool) (j : Judged) (js : List Judged) → Describes needs first j → DescribeAll needs others js → IsAnswer needs (extreme_said at greatest (j ∷ js)) result

-- the range from one number to another, which are in order
abbrev pub IsRange : ℕ → ℤ → ℤ → Result Interval StaticFault → Type 0
IsRange at lo hi result =
    MatchResult result (λ i. (int_lt hi lo ≡ false) × (is_wide (from_to lo hi) ≡ false) × (ends i ≡ from_to lo hi)) (IsFaultAt (fault_if (int_lt hi lo) is.Range at ++ wide_at (from_to lo hi) at))

-- a quantifier of truth values, behind its domain
abbrev pub truths_said : Context → ℕ → Judged → Judged
truths_said c at j = given_whole at (j.faults ++ (wants_truth j ++ no_constant c at)) truth []

-- a sum over the numbers between ends, behind its domain
abbrev pub summed_said : Context → ℕ → Ends → Judged → Judged
summed_said c at e j =
    let range = multiple (count_of e) (ends_of j.kind) in
    given_whole at (j.faults ++ (wants_whole j ++ (no_constant c at ++ wide_at range at))) (whole range) []

-- a quantifier of truth values
abbrev pub IsOverTruths : ℕ → Given → Bool → Result Given StaticFault → Type 0
IsOverTruths at g needs result = (c : Context) (j : Judged) → c.needs_constant ≡ needs → Describes needs g j → IsAnswer needs (truths_said c at j) result

-- a sum over a domain, which is one cell
abbrev pub IsSummed : ℕ → Ty → Given → Bool → Result Given StaticFault → Type 0
IsSummed at t g needs result =
    (c : Context) (e : Ends) (j : Judged) → is_scalar (kind_of t) ≡ true → e ≡ ends_of (kind_of t) → c.needs_constant ≡ needs → Describes needs g j → IsAnswer needs (summed_said c at e j) result
