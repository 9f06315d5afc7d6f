-- The kind of a type, form by form, its parts, and wide ranges.
pub use Rattle.hll_meaning.proofs.KindForms.{field_kind, kind_of_bool, kind_of_int, kind_of_elem, kind_of_array, kind_of_struct}
pub use Rattle.hll_meaning.proofs.Wide.{wide_so, narrow_so}
use Rattle.std.proofs.Common.{◌≡◌, ℕ, zero, suc, ◌+◌, ◌<◌, ◌≤◌, List, [], ◌∷◌, map, length, Some, None, refl, ap, ◌∙◌, arith}
use Rattle.std.specs.Prelude.{option_map, slice_get}
use Rattle.std.specs.List.{flat_map, range_with_len}
use Rattle.std.proofs.lemmas.List.{length-map}
use Rattle.std.proofs.lemmas.Option.{slice_get-map}
use Rattle.hll_meaning.specs.declared.ty.FieldTy.{FieldTy}
use Rattle.hll_meaning.specs.declared.ty.Ty.{Ty, Array, Struct}
use Rattle.hll_meaning.specs.Kinds.{Kind}
use Rattle.hll_meaning.specs.Fitting.{field_list, parts}
use Rattle.hll_meaning.specs.Types.{fields_of, kind_of}

-- so many times the same
many : (k : Kind) (a n : ℕ) → length (flat_map (λ i. k ∷ []) (range_with_len a n)) ≡ n
many k a zero = refl
many k a (suc n) = ap suc (many k (a + 1) n)

one_of_many : (k : Kind) (a n p : ℕ) → p < n → slice_get (flat_map (λ i. k ∷ []) (range_with_len a n)) p ≡ Some k
one_of_many k a zero p h = absurd (omega arith)
one_of_many k a (suc n) zero h = refl
one_of_many k a (suc n) (suc p) h = one_of_many k (a + 1) n p (omega arith)

none_of_many : (k : Kind) (a n p : ℕ) → n ≤ p → slice_get (flat_map (λ i. k ∷ []) (range_with_len a n)) p ≡ None
none_of_many k a zero p h = refl
none_of_many k a (suc n) zero h = absurd (omega arith)
none_of_many k a (suc n) (suc p) h = none_of_many k (a + 1) n p (omega arith)

pub count_of_array : (n : ℕ) (t : Ty) → length (parts (kind_of (Array n t))) ≡ n
count_of_array n t = ap (λ k. length (parts k)) (kind_of_array n t) ∙ many (kind_of t) 0 n

pub part_of_array : (n : ℕ) (t : Ty) (p : ℕ) → p < n → slice_get (parts (kind_of (Array n t))) p ≡ Some (kind_of t)
part_of_array n t p h = ap (λ k. slice_get (parts k) p) (kind_of_array n t) ∙ one_of_many (kind_of t) 0 n p h

pub no_part_of_array : (n : ℕ) (t : Ty) (p : ℕ) → n ≤ p → slice_get (parts (kind_of (Array n t))) p ≡ None
no_part_of_array n t p h = ap (λ k. slice_get (parts k) p) (kind_of_array n t) ∙ none_of_many (kind_of t) 0 n p h

-- the kinds of fields
listed : (fields : List FieldTy) → field_list (fields_of (map field_kind fields)) ≡ map (λ f. kind_of f.ty) fields
listed [] = refl
listed (f ∷ fields) = ap (λ ks. kind_of f.ty ∷ ks) (listed fields)

pub parts_of_struct : (name : List ℕ) (fields : List FieldTy) → parts (kind_of (Struct name fields)) ≡ map (λ f. kind_of f.ty) fields
parts_of_struct name fields = ap parts (kind_of_struct name fields) ∙ listed fields

pub count_of_struct : (name : List ℕ) (fields : List FieldTy) → length (parts (kind_of (Struct name fields))) ≡ length fields
count_of_struct name fields = ap length (parts_of_struct name fields) ∙ length-map fields (λ f. kind_of f.ty)

pub part_of_struct : (name : List ℕ) (fields : List FieldTy) (p : ℕ) → slice_get (parts (kind_of (Struct name fields))) p ≡ option_map (λ f. kind_of f.ty) (slice_get fields p)
part_of_struct name fields p = ap (λ ks. slice_get ks p) (parts_of_struct name fields) ∙ slice_get-map (λ f. kind_of f.ty) fields p
