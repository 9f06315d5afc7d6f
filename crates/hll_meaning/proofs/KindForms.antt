-- The kind of a type, form by form.
use Rattle.std.proofs.Common.{◌≡◌, ℕ, List, map, refl, ◌∙◌}
use Rattle.intervals.specs.declared.interval.Interval.{Interval}
use Rattle.hll_meaning.specs.declared.ty.FieldTy.{FieldTy, fold_out-FieldTy}
use Rattle.hll_meaning.specs.declared.ty.Ty.{Ty, Bool, Int, Elem, Array, Struct, fold_out-Ty}
use Rattle.hll_meaning.specs.declared.ty.Ty.TheVariants.{outs-Bool, outs-Int, outs-Elem, outs-Array, outs-Struct}
use Rattle.hll_meaning.specs.Kinds.{Kind, truth, whole, element, array, struct}
use Rattle.hll_meaning.specs.Types.{ends, fields_of, form_kind, kind_of}

-- a field with its kind
abbrev pub field_kind : FieldTy → List ℕ × Kind
field_kind f = (f.name, kind_of f.ty)

pub kind_of_bool : kind_of Bool ≡ truth
unfolding kind_of
kind_of_bool = fold_out-Ty _ _ _ _ Bool ∙ rw outs-Bool refl

pub kind_of_int : (i : Interval) → kind_of (Int i) ≡ whole (ends i)
unfolding kind_of
kind_of_int i = fold_out-Ty _ _ _ _ (Int i) ∙ rw (outs-Int i) refl

pub kind_of_elem : (root : List ℕ) (i : Interval) → kind_of (Elem root i) ≡ element root (ends i)
unfolding kind_of
kind_of_elem root i = fold_out-Ty _ _ _ _ (Elem root i) ∙ rw (outs-Elem root i) refl

pub kind_of_array : (n : ℕ) (t : Ty) → kind_of (Array n t) ≡ array n (kind_of t)
unfolding kind_of
kind_of_array n t = fold_out-Ty _ _ _ _ (Array n t) ∙ rw (outs-Array n t) refl

pub kind_of_struct : (name : List ℕ) (fields : List FieldTy) → kind_of (Struct name fields) ≡ struct name (fields_of (map field_kind fields))
unfolding kind_of
kind_of_struct name fields = fold_out-Ty _ _ _ _ (Struct name fields) ∙ rw (outs-Struct name fields)
    (λ i. struct name (fields_of (map (λ f. fold_out-FieldTy _ _ form_kind (λ f. (f.name, f.ty)) f i) fields)))
