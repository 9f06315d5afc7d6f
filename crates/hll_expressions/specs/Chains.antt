-- Words for the contracts of private parts: operators of chains, and the numbers of chains of constants.
use Rattle.std.specs.Prelude.{FitsSigned, ◌≡◌, ℕ, ◌^◌, ℤ, pos, neg_ℤ, ◌≤ℤ◌, Bool, true, false, not, ◌&&◌, ◌||◌, List, [], ◌∷◌, ◌++◌, Option, Some, None, Result, MatchResult, if◌then◌else◌}
use Rattle.std.specs.Int.{w128}
use Rattle.std.specs.Ordering.{int_eq}
use Rattle.intervals.specs.Ends.{Ends}
use Rattle.hll_tree.specs.declared.tree.Op.{Op}
use Rattle.hll_tree.specs.declared.tree.Op.TheVariants as op
use Rattle.hll_meaning.specs.Kinds.{truth, Value, IsOf}
use Rattle.hll_meaning.specs.Values.{of_number, of_truth, number, operated, from_the_left, chained}
use Rattle.hll_meaning.specs.Fitting.{ends_of, is_wide}
use Rattle.hll_meaning.specs.Judging.{Context, Judged, is_division, is_logical, result_kind, operator_faults}
use Rattle.hll_expressions.specs.declared.faults.StaticFault.{StaticFault}
use Rattle.hll_expressions.specs.declared.given.Given.{Given}
use Rattle.hll_expressions.specs.declared.operators.Tally.{Tally}
use Rattle.hll_expressions.specs.declared.operators.Tally.TheVariants as tally
use Rattle.hll_expressions.specs.Answers.{IsFaultAt}
use Rattle.hll_expressions.specs.Described.{Describes, IsWhole}

-- the range of an arithmetic operator's result; that of a logical one is never asked for
abbrev pub arithmetic_range : Op → Ends → Ends → Ends
arithmetic_range o a b = ends_of (result_kind o a b)

-- the truth value of a logical operator; that of an arithmetic one is never asked for
abbrev pub logical_of : Op → Bool → Bool → Bool
logical_of op.Same a b = if a then b else not b
logical_of op.Differ a b = if a then not b else b
logical_of op.Implies a b = not a || b
logical_of op.Or a b = a || b
logical_of op.And a b = a && b
logical_of op.Plus a b = false
logical_of op.Less a b = false
logical_of op.Times a b = false
logical_of op.Over a b = false
logical_of op.Rest a b = false

-- a number that stands near ranges
abbrev pub IsNear : ℤ → Type 0
IsNear x = (neg_ℤ (pos (2 ^ 64)) ≤ℤ x) × (x ≤ℤ pos (2 ^ 64))

-- the number of an operator's result, which is found where the operands are near and it fits
abbrev pub Operates : Op → ℤ → ℤ → Option ℤ → Type 0
Operates o x y result =
    IsNear x → IsNear y → FitsSigned w128 (number (operated o (of_number x) (of_number y))) → result ≡ Some (number (operated o (of_number x) (of_number y)))

-- ---- from the right

-- the value of the last operand
abbrev pub last_of : Value → List (Op × Value) → Value
last_of v [] = v
last_of v (w ∷ ws) = last_of w.1 ws

-- what a chain makes from the right, with another value in place of its last operand
abbrev pub ending : Value → List (Op × Value) → Value → Value
ending v [] x = x
ending v (w ∷ ws) x = operated w.0 v (ending w.1 ws x)

-- whether its first operator is an implication
abbrev pub is_implication : Op → Bool
is_implication op.Same = false
is_implication op.Differ = false
is_implication op.Implies = true
is_implication op.Or = false
is_implication op.And = false
is_implication op.Plus = false
is_implication op.Less = false
is_implication op.Times = false
is_implication op.Over = false
is_implication op.Rest = false

-- a chain goes from the right where its first operator is an implication, and else from the left
abbrev pub goes_right : List (Op × Value) → Bool
goes_right [] = false
goes_right (w ∷ ws) = is_implication w.0

abbrev pub goes_left : List (Op × Value) → Bool
goes_left [] = false
goes_left (w ∷ ws) = not (is_implication w.0)

-- ---- tallies

-- the number of a chain with these operands
abbrev pub IsTally : Tally → Value → List (Op × Value) → Type 0
IsTally (tally.First x) v ws = (ws ≡ []) × (number v ≡ x)
IsTally (tally.Left x) v ws = (goes_left ws ≡ true) × (number (from_the_left v ws) ≡ x)
IsTally (tally.Right of_false of_true last) v ws =
    (goes_right ws ≡ true) × (number (ending v ws (of_truth false)) ≡ number (of_truth of_false)) × (number (ending v ws (of_truth true)) ≡ number (of_truth of_true)) × (last_of v ws ≡ of_truth last)

-- an operand goes behind a chain: the numbers are near, the result fits, and behind an implication all are truth values
pub record GoesOn (o : Op) (x : ℤ) (v : Value) (ws : List (Op × Value)) (w : Value) : Type 0 where
  pub given : number w ≡ x
  pub chain_near : IsNear (number (chained v ws))
  pub near : IsNear x
  pub fits : FitsSigned w128 (number (operated o (chained v ws) w))
  pub truths : goes_right (ws ++ (o, w) ∷ []) ≡ true → (is_logical o ≡ true) × IsOf truth w

-- the number of a chain from the left, one operator further
abbrev pub CountsLeft : Op → ℤ → ℤ → Option Tally → Type 0
CountsLeft o x y result =
    IsNear x → IsNear y → FitsSigned w128 (number (operated o (of_number x) (of_number y))) → result ≡ Some (tally.Left (number (operated o (of_number x) (of_number y))))

-- the number of a chain one operator further
abbrev pub Counts : Tally → Op → ℤ → Option Tally → Type 0
Counts t o x result = (v : Value) (ws : List (Op × Value)) (w : Value) → IsTally t v ws → GoesOn o x v ws w → (t' : Tally) × (result ≡ Some t') × IsTally t' v (ws ++ (o, w) ∷ [])

-- there is a tally
abbrev pub IsTallied : Option Tally → Value → List (Op × Value) → Type 0
IsTallied o v ws = (t : Tally) × (o ≡ Some t) × IsTally t v ws

-- the tally one operator further
abbrev pub TalliesOn : Option Tally → Op → Option ℤ → Option Tally → Type 0
TalliesOn o p right result = (v : Value) (ws : List (Op × Value)) (w : Value) (x : ℤ) → right ≡ Some x → IsTallied o v ws → GoesOn p x v ws w → IsTallied result v (ws ++ (p, w) ∷ [])

-- ---- divisions

-- a constant is divided by zero
abbrev pub by_zero : Bool → Op → Judged → Bool
by_zero needs o r = needs && (is_division o && int_eq (number r.value) (pos 0))

-- ---- kinds

-- neither has a wide range
abbrev pub AreNarrow : Judged → Judged → Type 0
AreNarrow l r = (is_wide (ends_of l.kind) ≡ false) × (is_wide (ends_of r.kind) ≡ false)

-- a chain one operator further, whose operands are described
abbrev pub IsFurther : Bool → Given → Op → ℕ → Given → Result Given StaticFault → Type 0
IsFurther needs left o at right result =
    (c : Context) (l r : Judged) → c.needs_constant ≡ needs → Describes false left l → Describes needs right r →
    MatchResult result (λ g. (operator_faults c o at l r ≡ []) × IsWhole at (result_kind o (ends_of l.kind) (ends_of r.kind)) None g × (is_logical o ≡ false → AreNarrow l r))
    (IsFaultAt (operator_faults c o at l r))
