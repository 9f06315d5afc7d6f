-- Elements and fields of a kind, form by form.
use Rattle.std.proofs.Common.{◌≡◌, ℕ, pos, Bool, true, false, List, [], Result, Ok, Err, refl, sym, ap, subst, ◌∙◌}
use Rattle.std.specs.Borrow.{Bor}
use Rattle.intervals.specs.declared.interval.Interval.{Interval}
use Rattle.hll_tree.specs.declared.tree.Name.{Name}
use Rattle.hll_meaning.specs.declared.fault.StaticKind.TheVariants as why
use Rattle.hll_meaning.specs.declared.ty.FieldTy.{FieldTy}
use Rattle.hll_meaning.specs.declared.ty.Ty.{Ty, Elem, Array, Struct}
use Rattle.hll_meaning.specs.Kinds.{Kind, truth, whole, element, array, struct}
use Rattle.hll_meaning.specs.Types.{ends, kind_of}
use Rattle.hll_meaning.specs.Judging.{Fault, Judged, past, wants_whole, by_index_from, by_name_from}
use Rattle.hll_expressions.specs.declared.faults.StaticFault.{StaticFault}
use Rattle.hll_expressions.specs.declared.faults.StaticFault.TheVariants as answer
use Rattle.hll_expressions.specs.declared.given.Given.{Given}
use Rattle.hll_expressions.specs.Answers.{IsFaultAt}
use Rattle.hll_expressions.specs.Described.{known}
use Rattle.hll_expressions.specs.Ways.{IsFieldFound, IsElement, IsMember, IsWay}
use Rattle.hll_expressions.proofs.Describing.{no_whole, is_whole_one, whole_wanted}
use Rattle.hll_expressions.proofs.Firsts.{behind, none_both}
use Rattle.hll_expressions.proofs.KindForms.{kind_of_elem, kind_of_array, kind_of_struct}

-- a kind that has elements
abbrev pub is_array : Kind → Bool
is_array truth = false
is_array (whole e) = false
is_array (element root e) = false
is_array (array n k) = true
is_array (struct name fields) = false

-- a kind that has fields
abbrev pub is_struct : Kind → Bool
is_struct truth = false
is_struct (whole e) = false
is_struct (element root e) = false
is_struct (array n k) = false
is_struct (struct name fields) = true

-- a path that goes on past the type is wrong there
past_first : (at : ℕ) (fs : List Fault) (f : StaticFault) → fs ≡ [] → f ≡ answer.Fault why.Mismatch at → IsFaultAt (past at fs).faults f
past_first at fs f none is = subst (IsFaultAt (past at fs).faults) (sym is) (behind fs _ (answer.Fault why.Mismatch at) none refl)

no_elements : (at : ℕ) (j : Judged) (k : Kind) (f : StaticFault) → is_array k ≡ false → j.faults ≡ [] → f ≡ answer.Fault why.Mismatch at → IsFaultAt (by_index_from at j k []).faults f
no_elements at j truth f other none is = past_first at j.faults f none is
no_elements at j (whole e) f other none is = past_first at j.faults f none is
no_elements at j (element root e) f other none is = past_first at j.faults f none is
no_elements at j (array n k) f other none is = absurd (cc other)
no_elements at j (struct name fields) f other none is = past_first at j.faults f none is

pub no_element : (at : ℕ) (t : Ty) (k : Kind) (g : Given) (f : StaticFault) → kind_of t ≡ k → is_array k ≡ false → f ≡ answer.Fault why.Mismatch at → IsElement at t g (Err f)
no_element at t k g f same other is needs j d = no_elements at j (kind_of t) f (ap is_array same ∙ other) d.faultless is

pub index_not_whole : (at n : ℕ) (t each : Ty) (g : Given) (f : StaticFault) → t ≡ Array n each → IsFaultAt (wants_whole (known g)) f → IsElement at t g (Err f)
index_not_whole at n t each g f is h needs j d =
    subst (λ k. IsFaultAt (by_index_from at j k []).faults f) (sym (ap kind_of is ∙ kind_of_array n each)) (behind j.faults (wants_whole j) f d.faultless (no_whole needs g j f d h))

pub element_found : (at n : ℕ) (t each : Ty) (g : Given) (i : Interval) (result : Bor Ty) → t ≡ Array n each → (known g).kind ≡ whole (ends i) → result.now ≡ each → IsElement at t g (Ok result)
element_found at n t each g i result is range same needs j d =
    subst (λ k. IsWay (by_index_from at j k []) (Ok result)) (sym (ap kind_of is ∙ kind_of_array n each))
    (none_both j.faults (wants_whole j) d.faultless (whole_wanted j (ends i) (is_whole_one needs g j i d range)), sym (ap kind_of same))

-- ---- fields

no_fields : (at : ℕ) (sought : List ℕ) (place : ℕ) (k : Kind) (f : StaticFault) → is_struct k ≡ false → f ≡ answer.Fault why.Mismatch at → IsFaultAt (by_name_from at sought place k []).faults f
no_fields at sought place truth f other is = past_first at [] f refl is
no_fields at sought place (whole e) f other is = past_first at [] f refl is
no_fields at sought place (element root e) f other is = past_first at [] f refl is
no_fields at sought place (array n k) f other is = past_first at [] f refl is
no_fields at sought place (struct name fields) f other is = absurd (cc other)

pub no_member : (at : ℕ) (t : Ty) (k : Kind) (n : Name) (f : StaticFault) → kind_of t ≡ k → is_struct k ≡ false → f ≡ answer.Fault why.Mismatch at → IsMember at t n (Err f)
no_member at t k n f same other is = no_fields at n.text n.at (kind_of t) f (ap is_struct same ∙ other) is

pub member_found : (at : ℕ) (t : Ty) (name : List ℕ) (fields all : List FieldTy) (n : Name) (result : Result (Bor Ty) StaticFault) → t ≡ Struct name fields → all ≡ fields → IsFieldFound all n result → IsMember at t n result
member_found at t name fields all n result is same h =
    subst (λ k. IsWay (by_name_from at n.text n.at k []) result) (sym (ap kind_of is ∙ kind_of_struct name fields)) (subst (λ fs. IsFieldFound fs n result) same h)

-- ---- an element alone

pub element_alone : (root own : List ℕ) (i : Interval) (code : ℕ) → own ≡ root → i.lo ≡ pos code → i.hi ≡ pos code → kind_of (Elem own i) ≡ element root (record { lo = pos code; hi = pos code })
element_alone root own i code named low high = kind_of_elem own i ∙ (λ j. element (named j) (record { lo = low j; hi = high j }))
