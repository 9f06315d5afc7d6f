-- The kind that a type stands for.
use Rattle.std.specs.Prelude.{ℕ, List, [], ◌∷◌}
use Rattle.intervals.specs.Ends.{Ends}
use Rattle.intervals.specs.declared.interval.Interval.{Interval}
use Rattle.hll_meaning.specs.declared.ty.Ty.{Ty, Ty-F, fold-Ty}
use Rattle.hll_meaning.specs.Kinds.{Kind, truth, whole, element, array, struct, Fields, none, field}

-- the ends of an interval
abbrev pub ends : Interval → Ends
ends i = record { lo = i.lo; hi = i.hi }

-- fields by their names and kinds
abbrev pub fields_of : List (List ℕ × Kind) → Fields
fields_of [] = none
fields_of (f ∷ fs) = field f.0 f.1 (fields_of fs)

-- the kind of a form of types, by those of its parts
abbrev pub form_kind : Ty-F Kind (List ℕ × Kind) → Kind
form_kind Ty-F.Bool = truth
form_kind (Ty-F.Int i) = whole (ends i)
form_kind (Ty-F.Elem root i) = element root (ends i)
form_kind (Ty-F.Array n k) = array n k
form_kind (Ty-F.Struct name fields) = struct name (fields_of fields)

-- the kind of a type
unfoldable pub kind_of : Ty → Kind
kind_of = fold-Ty Kind (List ℕ × Kind) form_kind (λ f. (f.name, f.ty))
