-- Types and things with the roots of their elements, form by form.
use Rattle.std.proofs.Common.{◌≡◌, ℕ, ◌-◌, ◌^◌, ◌<◌, ℤ, pos, negsuc, ◌+ℤ◌, ◌≤ℤ◌, unsigned_abs, FitsSigned, to_z, of_z, false, List, [], ◌∷◌, ◌++◌, refl, sym, ap, subst, ◌∙◌, append_assoc, arith}
use Rattle.std.proofs.lemmas.Int.{ints, fits_signed_from_abs, to_z-of_z}
use Rattle.std.specs.Int.{w128}
use Rattle.intervals.specs.declared.interval.Interval.{Interval}
use Rattle.hll_meaning.specs.declared.ty.FieldTy.{FieldTy}
use Rattle.hll_meaning.specs.declared.ty.Ty.{Ty, Bool, Int, Elem, Array, Struct}
use Rattle.hll_meaning.specs.Kinds.{element, array, struct, none, field}
use Rattle.hll_meaning.specs.Names.{Thing as Said, Names}
use Rattle.hll_meaning.specs.Types.{ends, kind_of}
use Rattle.hll_meaning.specs.Declarations.{is_among}
use Rattle.hll_meaning.specs.StaticRules.{taken_by}
use Rattle.hll_types.specs.Measures.{field_kinds_of}
use Rattle.hll_types.specs.Settling.{Roots, kind_in, fields_in, thing_in, names_in}
use Rattle.hll_types.proofs.Apart.{AreApart, front_apart}
use Rattle.hll_types.proofs.FreshNames.{taken_append}
use Rattle.hll_expressions.proofs.KindForms.{kind_of_bool, kind_of_int, kind_of_elem, kind_of_array, kind_of_struct}

module _ (r : Roots) (t : Ty) where
  pub bool_in : t ≡ Bool → kind_of Bool ≡ kind_in r (kind_of t)
  bool_in is = kind_of_bool ∙ sym (ap (λ (u : Ty). kind_in r (kind_of u)) is ∙ ap (kind_in r) kind_of_bool)

  pub int_in : (i : Interval) → t ≡ Int i → kind_of (Int i) ≡ kind_in r (kind_of t)
  int_in i is = kind_of_int i ∙ sym (ap (λ (u : Ty). kind_in r (kind_of u)) is ∙ ap (kind_in r) (kind_of_int i))

  pub elem_in : (n : List ℕ) (i : Interval) → t ≡ Elem n i → kind_in r (element n (ends i)) ≡ kind_in r (kind_of t)
  elem_in n i is = sym (ap (λ (u : Ty). kind_in r (kind_of u)) is ∙ ap (kind_in r) (kind_of_elem n i))

  pub array_in : (n : ℕ) (each other : Ty) → t ≡ Array n each → kind_of other ≡ kind_in r (kind_of each) → kind_of (Array n other) ≡ kind_in r (kind_of t)
  array_in n each other is same = kind_of_array n other ∙ ap (array n) same ∙ sym (ap (λ (u : Ty). kind_in r (kind_of u)) is ∙ ap (kind_in r) (kind_of_array n each))

  pub struct_in : (n : List ℕ) (fields others : List FieldTy) → t ≡ Struct n fields → field_kinds_of others ≡ fields_in r (field_kinds_of fields) → kind_of (Struct n others) ≡ kind_in r (kind_of t)
  struct_in n fields others is same = kind_of_struct n others ∙ ap (struct n) same ∙ sym (ap (λ (u : Ty). kind_in r (kind_of u)) is ∙ ap (kind_in r) (kind_of_struct n fields))

-- one field more
pub fields_more : (r : Roots) (xs ys : List FieldTy) (f g : FieldTy) → field_kinds_of xs ≡ fields_in r (field_kinds_of ys) → f.name ≡ g.name → kind_of f.ty ≡ kind_in r (kind_of g.ty) →
    field_kinds_of (xs ++ f ∷ []) ≡ fields_in r (field_kinds_of (ys ++ g ∷ []))
fields_more r [] [] f g same name kind = λ i. field (name i) (kind i) none
fields_more r [] (y ∷ ys) f g same name kind = absurd (cc same)
fields_more r (x ∷ xs) [] f g same name kind = absurd (cc same)
fields_more r (x ∷ xs) (y ∷ ys) f g same name kind =
    let own : x.name ≡ y.name = cc same in
    let here : kind_of x.ty ≡ kind_in r (kind_of y.ty) = cc same in
    let behind : field_kinds_of xs ≡ fields_in r (field_kinds_of ys) = cc same in
    let there = fields_more r xs ys f g behind name kind in
    λ i. field (own i) (here i) (there i)

-- ---- codes

sum_size : (z : ℤ) → negsuc (2 ^ 63 - 1) ≤ℤ z → z ≤ℤ pos (2 ^ 65) → unsigned_abs z < 2 ^ 127
sum_size (pos n) h k = omega (arith, ints)
sum_size (negsuc n) h k = omega (arith, ints)

-- an end that is moved on
pub end_moved : (x : ℤ) (b : ℕ) → negsuc (2 ^ 63 - 1) ≤ℤ x → x ≤ℤ pos (2 ^ 64 - 1) → b < 2 ^ 64 → to_z w128 (of_z w128 (to_z w128 (of_z w128 x) +ℤ to_z w128 b)) ≡ x +ℤ pos b
end_moved x b least greatest few =
    let own : to_z w128 (of_z w128 x) ≡ x = omega (arith, ints) in
    let shift : to_z w128 b ≡ pos b = omega (arith, ints) in
    let fits : FitsSigned w128 (x +ℤ pos b) = fits_signed_from_abs w128 (x +ℤ pos b) (sum_size (x +ℤ pos b) (omega (arith, ints)) (omega (arith, ints))) in
    (λ i. to_z w128 (of_z w128 (own i +ℤ shift i))) ∙ to_z-of_z w128 (x +ℤ pos b) fits

-- elements of a sort as elements of its root
pub element_moved : (root : List ℕ) (before : ℕ) (place : List ℕ × ℕ) (codes moved : Interval) → (root, before) ≡ place → ends moved ≡ record { lo = codes.lo +ℤ pos before; hi = codes.hi +ℤ pos before } →
    kind_of (Elem root moved) ≡ element place.0 (record { lo = codes.lo +ℤ pos place.1; hi = codes.hi +ℤ pos place.1 })
element_moved root before place codes moved is same =
    kind_of_elem root moved ∙ ap (element root) same ∙ (λ i. element (is i).0 (record { lo = codes.lo +ℤ pos (is i).1; hi = codes.hi +ℤ pos (is i).1 }))

-- ---- names one by one

same_names : (r : Roots) (xs : Names) → taken_by (names_in r xs) ≡ taken_by xs
same_names r [] = refl
same_names r (x ∷ xs) = ap (λ ns. x.0 ∷ ns) (same_names r xs)

-- the next name is new, and stands for what it did, with the roots of its elements
module _ (r : Roots) (all before more : Names) (n : List ℕ) (t : Said) (apart : AreApart (taken_by all)) (whole : before ++ names_in r ((n, t) ∷ more) ≡ names_in r all) where
  pub next_new : is_among (taken_by before) n ≡ false
  next_new =
      front_apart (taken_by before) n (taken_by (names_in r more))
      (subst AreApart (sym (sym (taken_append before (names_in r ((n, t) ∷ more))) ∙ ap taken_by whole ∙ same_names r all)) apart)

  pub next_settled : (new : Names) (m : List ℕ) (u : Said) → new ≡ before ++ (m, u) ∷ [] → m ≡ n → u ≡ thing_in r t → new ++ names_in r more ≡ names_in r all
  next_settled new m u put same said =
      (λ i. put i ++ names_in r more)
      ∙ append_assoc before ((m, u) ∷ []) (names_in r more)
      ∙ (λ i. before ++ (same i, said i) ∷ names_in r more)
      ∙ whole
