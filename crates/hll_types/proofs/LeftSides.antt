-- Left sides of definitions, slot by slot.
use Rattle.std.proofs.Common.{◌≡◌, ℕ, pos, Bool, true, false, cond, ◌||◌, ◌⊎◌, inl, inr, List, [], ◌∷◌, ◌++◌, map, reverse, Option, None, Some, is_some, option_map, refl, sym, ap, ◌∙◌}
use Rattle.std.specs.Prelude.{find, ◌-ℤ◌}
use Rattle.std.specs.Borrow.{Bor}
use Rattle.std.specs.Option.{option_copied}
use Rattle.std.specs.Str.{bytes_eq}
use Rattle.std.proofs.lemmas.List.{map-append, reverse-append}
use Rattle.intervals.specs.declared.interval.Interval.{Interval}
use Rattle.hll_tree.specs.declared.tree.Name.{Name}
use Rattle.hll_tree.specs.declared.tree.Slot.{Slot}
use Rattle.hll_tree.specs.declared.tree.Slot.TheVariants as slot
use Rattle.hll_meaning.specs.declared.fault.StaticKind.TheVariants as is
use Rattle.hll_meaning.specs.declared.ty.FieldTy.{FieldTy}
use Rattle.hll_meaning.specs.declared.ty.Ty.{Ty, Bool as Truths, Int, Elem, Array, Struct}
use Rattle.hll_meaning.specs.Kinds.{Kind, truth, whole, element, array, struct}
use Rattle.hll_meaning.specs.Names.{under}
use Rattle.hll_meaning.specs.Types.{kind_of}
use Rattle.hll_meaning.specs.Declarations.{is_among}
use Rattle.hll_meaning.specs.Judging.{Fault, fault_if, from_to}
use Rattle.hll_meaning.specs.StaticRules.{Left, index_level, with_slot, fresh_name}
use Rattle.hll_expressions.specs.declared.faults.StaticFault.{StaticFault}
use Rattle.hll_expressions.specs.declared.faults.StaticFault.TheVariants as answer
use Rattle.hll_expressions.specs.declared.scope.Bounds.{Indices}
use Rattle.hll_expressions.specs.declared.scope.Index.{Index}
use Rattle.hll_expressions.specs.Answers.{IsFaultAt}
use Rattle.hll_expressions.specs.Scopes.{index_names, bound_names}
use Rattle.hll_types.specs.Defining.{left_of}
use Rattle.hll_expressions.proofs.KindForms.{kind_of_bool, kind_of_int, kind_of_elem, kind_of_array, kind_of_struct}
use Rattle.hll_expressions.proofs.ScopeLemmas.{bound_indices}
use Rattle.hll_expressions.proofs.Firsts.{before, behind, not_so}

-- whether something stands under a name
pub is_some_under : {A : Type 0} (name : List ℕ) (xs : List (List ℕ × A)) → is_some (under name xs) ≡ is_among (map {B = List ℕ} (λ x. x.0) xs) name
is_some_under name [] = refl
is_some_under {A} name (x ∷ xs) = by (is_some_under name xs) (bytes_eq x.0 name)
  where
    by : is_some (under name xs) ≡ is_among (map {B = List ℕ} (λ y. y.0) xs) name → (b : Bool) → is_some (option_map (λ y. y.1) (cond b (Some x) (find (λ y. bytes_eq y.0 name) xs))) ≡ (b || is_among (map {B = List ℕ} (λ y. y.0) xs) name)
    by rest true = refl
    by rest false = rest

is_some_copied : (o : Option (Bor Ty)) → is_some (option_map kind_of (option_copied o)) ≡ is_some o
is_some_copied None = refl
is_some_copied (Some x) = refl

-- whether a name is bound already
pub is_bound_so : (o : Option (Bor Ty)) (b : Bool) (said name : List ℕ) (indices : Bor (List Index)) (items : List Index) →
    b ≡ is_some o → option_map kind_of (option_copied o) ≡ under said (bound_names (Indices indices)) → said ≡ name → indices.now ≡ items → b ≡ is_among (map {B = List ℕ} (λ x. x.0) (index_names items)) name
is_bound_so o b said name indices items e h own same =
    let names : bound_names (Indices indices) ≡ index_names items = bound_indices indices ∙ ap index_names same in
    e ∙ sym (is_some_copied o) ∙ ap is_some (h ∙ (λ i. under (own i) (names i))) ∙ is_some_under name (index_names items)

-- ---- the first fault stays the first

pub level_keeps : (n : Name) (l : Left) (k : Kind) (f : StaticFault) → IsFaultAt l.faults f → IsFaultAt (index_level n l k).faults f
level_keeps n l truth f h = before l.faults _ f h
level_keeps n l (whole e) f h = before l.faults _ f h
level_keeps n l (element root e) f h = before l.faults _ f h
level_keeps n l (array size k) f h = h
level_keeps n l (struct name fields) f h = before l.faults _ f h

pub slot_keeps : (l : Left) (s : Slot) (f : StaticFault) → IsFaultAt l.faults f → IsFaultAt (with_slot l s).faults f
slot_keeps l (slot.Index n) f h = level_keeps n _ l.kind f (before l.faults _ f h)
slot_keeps l (slot.Fixed at position) f h = before l.faults _ f h

-- ---- one level

abbrev pub is_array : Kind → Bool
is_array truth = false
is_array (whole e) = false
is_array (element root e) = false
is_array (array n k) = true
is_array (struct name fields) = false

-- an index name that isn't new
pub index_twice : (t : Ty) (indices : List Index) (n : Name) (f : StaticFault) → IsFaultAt (fault_if (is_among (map {B = List ℕ} (λ x. x.0) (index_names indices)) n.text) is.Twice n.at) f → IsFaultAt (with_slot (left_of t indices) (slot.Index n)).faults f
index_twice t indices n f h = level_keeps n _ (kind_of t) f (before (fault_if (is_among (map {B = List ℕ} (λ x. x.0) (index_names indices)) n.text) is.Twice n.at) [] f h)

fresh_so : (names : List (List ℕ)) (n : Name) → is_among names n.text ≡ false → fresh_name names n ≡ []
fresh_so names n new = ap (λ (fs : List Fault). fs ++ []) (not_so (is_among names n.text) is.Twice n.at new)

no_level_so : (n : Name) (fs : List Fault) → fs ≡ [] → IsFaultAt (fs ++ fault_if true is.Shape n.at) (answer.Fault is.Shape n.at)
no_level_so n fs none = behind fs (fault_if true is.Shape n.at) (answer.Fault is.Shape n.at) none refl

no_level : (n : Name) (l : Left) (k : Kind) → l.faults ≡ [] → is_array k ≡ false → IsFaultAt (index_level n l k).faults (answer.Fault is.Shape n.at)
no_level n l truth none h = no_level_so n l.faults none
no_level n l (whole e) none h = no_level_so n l.faults none
no_level n l (element root e) none h = no_level_so n l.faults none
no_level n l (array size k) none h = absurd (cc h)
no_level n l (struct name fields) none h = no_level_so n l.faults none

-- an index name where no level is left
pub index_shape : (t : Ty) (indices : List Index) (n : Name) → is_among (map {B = List ℕ} (λ x. x.0) (index_names indices)) n.text ≡ false → is_array (kind_of t) ≡ false → IsFaultAt (with_slot (left_of t indices) (slot.Index n)).faults (answer.Fault is.Shape n.at)
index_shape t indices n new h = no_level n _ (kind_of t) (fresh_so (map {B = List ℕ} (λ x. x.0) (index_names indices)) n new) h

-- what is no array
abbrev pub IsNoArray : Ty → Type 0
IsNoArray t = (t ≡ Truths) ⊎ (((i : Interval) × (t ≡ Int i)) ⊎ (((n : List ℕ) × (i : Interval) × (t ≡ Elem n i)) ⊎ ((n : List ℕ) × (fs : List FieldTy) × (t ≡ Struct n fs))))

pub no_array : (t : Ty) → IsNoArray t → is_array (kind_of t) ≡ false
no_array t (inl h) = ap is_array (ap kind_of h ∙ kind_of_bool)
no_array t (inr (inl h)) = ap is_array (ap kind_of h.1 ∙ kind_of_int h.0)
no_array t (inr (inr (inl h))) = ap is_array (ap kind_of h.2 ∙ kind_of_elem h.0 h.1)
no_array t (inr (inr (inr h))) = ap is_array (ap kind_of h.2 ∙ kind_of_struct h.0 h.1)

-- an index name behind others
names_more : (indices : List Index) (i : Index) → index_names (indices ++ i ∷ []) ≡ (i.name, kind_of i.kind) ∷ index_names indices
names_more indices i =
    ap reverse (map-append (λ (j : Index). (j.name, kind_of j.kind)) indices (i ∷ [])) ∙ reverse-append (map (λ (j : Index). (j.name, kind_of j.kind)) indices) ((i.name, kind_of i.kind) ∷ [])

-- an index name of a level
pub index_added : (t each : Ty) (size : ℕ) (indices : List Index) (n : Name) (i : Index) →
    t ≡ Array size each → is_among (map {B = List ℕ} (λ x. x.0) (index_names indices)) n.text ≡ false →
    i.name ≡ n.text → kind_of i.kind ≡ whole (from_to (pos 0) (pos size -ℤ pos 1)) →
    with_slot (left_of t indices) (slot.Index n) ≡ left_of each (indices ++ i ∷ [])
index_added t each size indices n i array_is new named index =
    let names : List (List ℕ) = map {B = List ℕ} (λ x. x.0) (index_names indices) in
    let kind : kind_of t ≡ array size (kind_of each) = ap kind_of array_is ∙ kind_of_array size each in
    let own_name : n.text ≡ i.name = sym named in
    let own_kind : whole (from_to (pos 0) (pos size -ℤ pos 1)) ≡ kind_of i.kind = sym index in
    ap (index_level n (record { kind = kind_of t; bound = index_names indices; faults = fresh_name names n })) kind
    ∙ (λ j. record { kind = kind_of each; bound = (own_name j, own_kind j) ∷ index_names indices; faults = fresh_so names n new j })
    ∙ ap (λ (bound : List (List ℕ × Kind)). record { kind = kind_of each; bound = bound; faults = [] }) (sym (names_more indices i))
