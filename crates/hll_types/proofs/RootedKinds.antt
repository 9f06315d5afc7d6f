-- Kinds with the roots of their elements: what is written stands for them, where pass 1 finds no fault.
use Rattle.std.proofs.Common.{◌≡◌, ℕ, ◌+◌, ◌-◌, ◌^◌, pos, neg_ℤ, ◌-ℤ◌, unsigned_abs, Bool, List, [], ◌∷◌, ◌++◌, map, Option, Some, None, option_map, refl, sym, ap, subst, ◌∙◌}
use Rattle.std.proofs.lemmas.List.{map-append}
use Rattle.hll_tree.specs.declared.tree.Declarator.{Declarator}
use Rattle.hll_tree.specs.declared.tree.Expr.{Expr}
use Rattle.hll_tree.specs.declared.tree.Field.{Field}
use Rattle.hll_tree.specs.declared.tree.TypeText.{TypeText}
use Rattle.hll_tree.specs.declared.tree.TypeText.TheVariants as written
use Rattle.hll_meaning.specs.Kinds.{Kind, truth, whole, element, array, struct, Fields, none, field, Value, cells}
use Rattle.hll_meaning.specs.Names.{Thing, constant, type_of, code_in, variable, later, Names, under}
use Rattle.hll_meaning.specs.Values.{number}
use Rattle.hll_meaning.specs.Agreement.{without_roots, fields_without_roots, thing_without_roots, AgreeButElements}
use Rattle.hll_meaning.specs.Declarations.{kind_of_thing, written_kind, with_dims, declared_kind, field_kinds, constant_value}
use Rattle.hll_meaning.specs.Judging.{Judged, judged}
use Rattle.hll_meaning.specs.StaticRules.{declaring, dim_faults, written_faults, dims_faults, fresh_name, fields_faults, declarators_faults}
use Rattle.hll_meaning.specs.Soundness.{AreFine}
use Rattle.hll_meaning.proofs.Elements.{agreeing_fine, agree_append}
use Rattle.hll_meaning.proofs.Faultless.{empty_parts, first_empty, second_empty}
use Rattle.hll_meaning.proofs.FineNames.{further_on, constant_said}
use Rattle.hll_meaning.proofs.Same.{is_same}
use Rattle.hll_types.specs.Settling.{Roots, kind_in, fields_in, thing_in, names_in}
use Rattle.hll_types.proofs.ChildrenWalk.{under_of}

-- ---- the same but for elements

mutual
  kind_alike : (r : Roots) (k : Kind) → without_roots k ≡ without_roots (kind_in r k)
  kind_alike r truth = refl
  kind_alike r (whole e) = refl
  kind_alike r (element sort e) = refl
  kind_alike r (array n k) = ap (array n) (kind_alike r k)
  kind_alike r (struct name fields) = ap (struct name) (fields_alike r fields)

  fields_alike : (r : Roots) (fields : Fields) → fields_without_roots fields ≡ fields_without_roots (fields_in r fields)
  fields_alike r none = refl
  fields_alike r (field name k fields) =
      let here = kind_alike r k in
      let there = fields_alike r fields in
      λ i. field name (here i) (there i)

thing_alike : (r : Roots) (t : Thing) → thing_without_roots t ≡ thing_without_roots (thing_in r t)
thing_alike r (constant b x) = refl
thing_alike r (type_of k) = ap type_of (kind_alike r k)
thing_alike r (code_in sort c) = refl
thing_alike r (variable input k) = ap (variable input) (kind_alike r k)
thing_alike r later = refl

pub names_alike : (r : Roots) (xs : Names) → AgreeButElements xs (names_in r xs)
names_alike r [] = refl
names_alike r (x ∷ xs) =
    let here = thing_alike r x.1 in
    let there = names_alike r xs in
    λ i. (x.0, here i) ∷ there i

pub names_in_append : (r : Roots) (xs ys : Names) → names_in r (xs ++ ys) ≡ names_in r xs ++ names_in r ys
names_in_append r xs ys = map-append (λ (x : List ℕ × Thing). let y : List ℕ × Thing = (x.0, thing_in r x.1) in y) xs ys

-- ---- kinds as they are written

named_in : (r : Roots) (o : Option Thing) → kind_of_thing (option_map (thing_in r) o) ≡ kind_in r (kind_of_thing o)
named_in r None = refl
named_in r (Some (constant b x)) = refl
named_in r (Some (type_of k)) = refl
named_in r (Some (code_in sort c)) = refl
named_in r (Some (variable input k)) = refl
named_in r (Some later) = refl

module _ (r : Roots) (before : Names) (further : List (List ℕ)) (fine : AreFine before) where
  pub value_in : (e : Expr) → (judged e (declaring before further)).faults ≡ [] → constant_value before e ≡ constant_value (names_in r before) e
  value_in e clean =
      let behind = agree_append before (names_in r before) (further_on further) (further_on further) (names_alike r before) refl in
      let same = is_same e (before ++ further_on further) (names_in r before ++ further_on further) behind clean in
      sym (constant_said before further e fine clean).0
      ∙ ap (λ (j : Judged). j.value) same
      ∙ (constant_said (names_in r before) further e (agreeing_fine before (names_in r before) (names_alike r before) fine) (subst (λ (j : Judged). j.faults ≡ []) same clean)).0

  pub dims_in : (es : List Expr) (k l : Kind) → dims_faults (declaring before further) es ≡ [] → l ≡ kind_in r k → with_dims (names_in r before) es l ≡ kind_in r (with_dims before es k)
  dims_in [] k l clean same = same
  dims_in (e ∷ es) k l clean same =
      let c = declaring before further in
      let p = empty_parts (dim_faults (judged e c)) (dims_faults c es) clean in
      let size = value_in e (first_empty (judged e c).faults _ p.0) in
      let rest = dims_in es k l p.1 same in
      λ i. array (unsigned_abs (number (sym size i))) (rest i)

  pub written_in : (ty : TypeText) → written_faults (declaring before further) ty ≡ [] → written_kind (names_in r before) ty ≡ kind_in r (written_kind before ty)
  written_in written.Bool clean = refl
  written_in (written.Bounds a b) clean =
      let p = empty_parts (judged a (declaring before further)).faults _ clean in
      let lo = value_in a p.0 in
      let hi = value_in b (first_empty (judged b (declaring before further)).faults _ p.1) in
      λ i. whole (record { lo = number (sym lo i); hi = number (sym hi i) })
  written_in (written.Signed e) clean =
      ap (λ (v : Value). whole (record { lo = neg_ℤ (pos (2 ^ (unsigned_abs (number v) - 1))); hi = pos (2 ^ (unsigned_abs (number v) - 1)) -ℤ pos 1 }))
      (sym (value_in e (first_empty (judged e (declaring before further)).faults _ clean)))
  written_in (written.Unsigned e) clean =
      ap (λ (v : Value). whole (record { lo = pos 0; hi = pos (2 ^ unsigned_abs (number v)) -ℤ pos 1 }))
      (sym (value_in e (first_empty (judged e (declaring before further)).faults _ clean)))
  written_in (written.Named n) clean = ap kind_of_thing (under_of (thing_in r) n.text before) ∙ named_in r (under n.text before)

  pub fields_written : (taken : List (List ℕ)) (fs : List Field) → fields_faults (declaring before further) taken fs ≡ [] → field_kinds (names_in r before) fs ≡ fields_in r (field_kinds before fs)
  fields_written taken [] clean = refl
  fields_written taken (f ∷ fs) clean =
      let c = declaring before further in
      let p = second_empty (fresh_name taken f.of.name) _ clean in
      let q = empty_parts (written_faults c f.ty) _ p in
      let s = empty_parts (dims_faults c f.of.dims) _ q.1 in
      let here = dims_in f.of.dims (written_kind before f.ty) (written_kind (names_in r before) f.ty) s.0 (written_in f.ty q.0) in
      let there = fields_written (f.of.name.text ∷ taken) fs s.1 in
      λ i. field f.of.name.text (here i) (there i)

  pub declarators_in : (input : Bool) (ty : TypeText) (taken : List (List ℕ)) (total : ℕ) (ds : List Declarator) → written_faults (declaring before further) ty ≡ [] → declarators_faults (declaring before further) before ty taken total ds ≡ [] →
      map {B = List ℕ × Thing} (λ d. (d.name.text, variable input (declared_kind (names_in r before) ty d))) ds ≡ names_in r (map (λ d. (d.name.text, variable input (declared_kind before ty d))) ds)
  declarators_in input ty taken total [] kind clean = refl
  declarators_in input ty taken total (d ∷ ds) kind clean =
      let c = declaring before further in
      let p = second_empty (fresh_name taken d.name) _ clean in
      let q = empty_parts (dims_faults c d.dims) _ p in
      let here = dims_in d.dims (written_kind before ty) (written_kind (names_in r before) ty) q.0 (written_in ty kind) in
      let there = declarators_in input ty (d.name.text ∷ taken) (total + cells (declared_kind before ty d)) ds kind (second_empty _ _ q.1) in
      λ i. (d.name.text, variable input (here i)) ∷ there i
