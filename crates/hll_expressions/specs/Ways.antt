-- Words for the contracts of private parts: the steps of paths.
use Rattle.std.specs.Prelude.{◌≡◌, ℕ, ℤ, Bool, true, List, [], map, Option, Some, None, is_some, Result, MatchResult}
use Rattle.std.specs.Borrow.{Bor}
use Rattle.hll_tree.specs.declared.tree.Name.{Name}
use Rattle.hll_meaning.specs.declared.ty.FieldTy.{FieldTy}
use Rattle.hll_meaning.specs.declared.ty.Ty.{Ty}
use Rattle.hll_meaning.specs.Kinds.{Kind, Value, IsOf}
use Rattle.hll_meaning.specs.Types.{fields_of, kind_of}
use Rattle.hll_meaning.specs.Values.{number}
use Rattle.hll_meaning.specs.Fitting.{is_scalar}
use Rattle.hll_meaning.specs.Judging.{Context, Judged, Reached, Way, by_index_from, by_name_from, field_at, found_field, path_from}
use Rattle.hll_expressions.specs.declared.faults.StaticFault.{StaticFault}
use Rattle.hll_expressions.specs.declared.given.Given.{Given}
use Rattle.hll_expressions.specs.Answers.{IsFaultAt}
use Rattle.hll_expressions.specs.Described.{Describes, IsAnswer}

-- before the first step
abbrev pub nowhere : Kind → Way
nowhere k = record { kind = k; faults = [] }

-- the kind that is reached, or the first fault on the way
abbrev pub IsWay : Way → Result (Bor Ty) StaticFault → Type 0
IsWay w result = MatchResult result (λ t. (w.faults ≡ []) × (w.kind ≡ kind_of t.now)) (IsFaultAt w.faults)

-- the field of a struct
abbrev pub IsFieldFound : List FieldTy → Name → Result (Bor Ty) StaticFault → Type 0
IsFieldFound fields n result = IsWay (found_field [] n.at (field_at (fields_of (map (λ f. (f.name, kind_of f.ty)) fields)) n.text)) result

-- a step by an index
abbrev pub IsElement : ℕ → Ty → Given → Result (Bor Ty) StaticFault → Type 0
IsElement at from index result = (needs : Bool) (j : Judged) → Describes needs index j → IsWay (by_index_from at j (kind_of from) []) result

-- a step by a field's name
abbrev pub IsMember : ℕ → Ty → Name → Result (Bor Ty) StaticFault → Type 0
IsMember at from n result = IsWay (by_name_from at n.text n.at (kind_of from) []) result

-- a number is the value of a constant, which is one cell
abbrev pub IsConstant : Kind → Option ℤ → Value → Type 0
IsConstant k None v = Unit {0}
IsConstant k (Some x) v = (is_scalar k ≡ true) × (number v ≡ x) × IsOf k v

-- a path from something of a kind, which is a constant where there is a number
abbrev pub IsPathFrom : Context → ℕ → Kind → Option ℤ → List Reached → Result Given StaticFault → Type 0
IsPathFrom c at k x steps result = (v : Value) → IsConstant k x v → IsAnswer c.needs_constant (path_from c at k (is_some x) v steps) result
