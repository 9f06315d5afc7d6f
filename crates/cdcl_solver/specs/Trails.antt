-- Trails: which literals are true, in the order in which they came to be, and why.
use Rattle.std.specs.Prelude.{◌<◌, ℕ, ℤ, neg_ℤ, List, All, Contains, length, map, take, slice_index_or}
use Rattle.rup_checker.specs.Formulas.{IsLiteral}
use Rattle.rup_checker.specs.Steps.{IsUnit}
use Rattle.rup_checker.specs.Stores.{clause_at}
use Rattle.cdcl_solver.specs.declared.trail.Assigned.{Assigned}
use Rattle.cdcl_solver.specs.declared.trail.Reason.{Reason}
use Rattle.cdcl_solver.specs.declared.trail.Reason.TheVariants as reason
use Rattle.cdcl_solver.specs.Watches.{IsSafe}

-- the literals that a trail makes false
abbrev pub falses : List Assigned → List ℤ
falses trail = map (λ a. neg_ℤ a.literal) trail

-- why a literal may become true: propagation was complete when it was decided, or a clause left nothing else
abbrev pub IsReason : List (List ℤ) → List ℤ → ℤ → Reason → Type 0
IsReason clauses taken l reason.Decision = All (IsSafe taken taken) clauses
IsReason clauses taken l (reason.Clause number) = (number < length clauses) × IsUnit (Contains taken) (clause_at clauses number) l

-- a literal of a variable that had no value, with its reason
pub record IsJustified (variables : ℕ) (clauses : List (List ℤ)) (taken : List ℤ) (a : Assigned) : Type 0 where
  pub in_range : IsLiteral variables a.literal
  pub free : (¬ (Contains taken a.literal)) × (¬ (Contains taken (neg_ℤ a.literal)))
  pub reason : IsReason clauses taken a.literal a.reason

-- each literal is justified by what was false before it
abbrev pub IsTrail : ℕ → List (List ℤ) → List Assigned → Type 0
IsTrail variables clauses trail =
    (k : ℕ) (d : Assigned) → k < length trail → IsJustified variables clauses (falses (take k trail)) (slice_index_or trail k d)
