-- Pass 1: what the steps of an item come to.
use Rattle.std.proofs.Common.{◌≡◌, ℕ, false, List, [], ◌∷◌, ◌++◌, refl, sym, ap, subst, ◌∙◌}
use Rattle.hll_tree.specs.declared.tree.ConstItem.{ConstItem}
use Rattle.hll_tree.specs.declared.tree.Declarator.{Declarator}
use Rattle.hll_tree.specs.declared.tree.Field.{Field}
use Rattle.hll_tree.specs.declared.tree.Name.{Name}
use Rattle.hll_tree.specs.declared.tree.TypeItem.TheVariants as item
use Rattle.hll_tree.specs.declared.tree.TypeText.{TypeText}
use Rattle.hll_meaning.specs.declared.fault.StaticKind.TheVariants as is
use Rattle.hll_meaning.specs.declared.ty.FieldTy.{FieldTy}
use Rattle.hll_meaning.specs.declared.ty.Ty.{Struct}
use Rattle.hll_meaning.specs.Kinds.{Kind, struct}
use Rattle.hll_meaning.specs.Names.{Thing, Names, constant, type_of}
use Rattle.hll_meaning.specs.Types.{kind_of}
use Rattle.hll_meaning.specs.Declarations.{a_constant, a_type, constant_number, declared_kind, field_kinds}
use Rattle.hll_meaning.specs.Judging.{fault_if, judged}
use Rattle.hll_meaning.specs.StaticRules.{declaring, fresh_name, taken_by, written_faults, dims_faults, is_large, fields_faults, wants_constant, item_faults, Pass1, pass1_item}
use Rattle.hll_meaning.proofs.KindForms.{kind_of_struct}
use Rattle.hll_types.specs.declared.declare.Declared.{Declared}
use Rattle.hll_expressions.specs.declared.faults.StaticFault.{StaticFault}
use Rattle.hll_expressions.specs.Answers.{IsFaultAt}
use Rattle.hll_expressions.specs.Things.{declared_names, IsAdded}
use Rattle.hll_types.specs.Measures.{field_kinds_of}
use Rattle.hll_types.specs.Declaring.{IsAfter}
use Rattle.hll_expressions.proofs.FirstFaults.{fault_front, fault_behind, fault_same, none_both, no_fault}
use Rattle.hll_types.proofs.SortTables.{IsOther}
use Rattle.hll_types.proofs.PassSteps.{after_constant, after_type}

module _ (old : Declared) (p : Pass1) (further : List (List ℕ)) (h : IsAfter old p further) where
  -- a name that is new among those that are declared is new
  pub fresh_there : (n : Name) → fresh_name (taken_by (declared_names old.names)) n ≡ [] → fresh_name (taken_by p.names) n ≡ []
  fresh_there n none = ap (λ (xs : Names). fresh_name (taken_by xs) n) (sym h.names.declared) ∙ none

  pub twice_there : (n : Name) (f : StaticFault) → IsFaultAt (fresh_name (taken_by (declared_names old.names)) n) f → IsFaultAt (fresh_name (taken_by p.names) n) f
  twice_there n f k = fault_same (fresh_name (taken_by (declared_names old.names)) n) (fresh_name (taken_by p.names) n) f (ap (λ (xs : Names). fresh_name (taken_by xs) n) h.names.declared) k

  -- what is added behind those that are declared
  pub added_there : (new : Declared) (xs ys : Names) → xs ≡ ys → IsAdded old.names new.names (declared_names old.names ++ xs) → IsAdded old.names new.names (p.names ++ ys)
  added_there new xs ys same added = subst (IsAdded old.names new.names) (λ i. h.names.declared i ++ same i) added

  -- ---- constants

  pub constant_twice : (k : ConstItem) (f : StaticFault) → IsFaultAt (fresh_name (taken_by (declared_names old.names)) k.name) f → IsFaultAt (item_faults (declaring p.names further) p (a_constant k)) f
  constant_twice k f w = fault_front (fresh_name (taken_by p.names) k.name) _ f (twice_there k.name f w)

  pub constant_wrong : (k : ConstItem) (f : StaticFault) → fresh_name (taken_by (declared_names old.names)) k.name ≡ [] →
      IsFaultAt ((judged k.value (declaring p.names further)).faults ++ wants_constant k.boolean (judged k.value (declaring p.names further))) f → IsFaultAt (item_faults (declaring p.names further) p (a_constant k)) f
  constant_wrong k f none w = fault_behind (fresh_name (taken_by p.names) k.name) _ f (fresh_there k.name none) w

  pub constant_right : (new : Declared) (k : ConstItem) (t : Thing) → fresh_name (taken_by (declared_names old.names)) k.name ≡ [] →
      (judged k.value (declaring p.names further)).faults ++ wants_constant k.boolean (judged k.value (declaring p.names further)) ≡ [] → t ≡ constant k.boolean (constant_number p.names k.value) →
      IsAdded old.names new.names (declared_names old.names ++ (k.name.text, t) ∷ []) → new.sorts ≡ old.sorts → new.cells ≡ old.cells → IsAfter new (pass1_item further p (a_constant k)) further
  constant_right new k t name value is added sorts cells =
      after_constant old new p further h k
      (added_there new ((k.name.text, t) ∷ []) ((k.name.text, constant k.boolean (constant_number p.names k.value)) ∷ []) (λ i. (k.name.text, is i) ∷ []) added) sorts cells
      (none_both (fresh_name (taken_by p.names) k.name) _ (fresh_there k.name name) value)

  -- ---- another name for a type

  alias_other : (ty : TypeText) (d : Declarator) → IsOther (item.Alias ty d)
  alias_other ty d = record { elements = λ table. refl; parent = λ n. refl; sort = refl; children = refl }

  pub alias_written : (ty : TypeText) (d : Declarator) (f : StaticFault) → IsFaultAt (written_faults (declaring p.names further) ty) f → IsFaultAt (item_faults (declaring p.names further) p (a_type (item.Alias ty d))) f
  alias_written ty d f w = fault_front (written_faults (declaring p.names further) ty) _ f w

  pub alias_twice : (ty : TypeText) (d : Declarator) (f : StaticFault) → written_faults (declaring p.names further) ty ≡ [] → IsFaultAt (fresh_name (taken_by (declared_names old.names)) d.name) f →
      IsFaultAt (item_faults (declaring p.names further) p (a_type (item.Alias ty d))) f
  alias_twice ty d f written w = fault_behind (written_faults (declaring p.names further) ty) _ f written (fault_front (fresh_name (taken_by p.names) d.name) _ f (twice_there d.name f w))

  pub alias_dims : (ty : TypeText) (d : Declarator) (f : StaticFault) → written_faults (declaring p.names further) ty ≡ [] → fresh_name (taken_by (declared_names old.names)) d.name ≡ [] →
      IsFaultAt (dims_faults (declaring p.names further) d.dims) f → IsFaultAt (item_faults (declaring p.names further) p (a_type (item.Alias ty d))) f
  alias_dims ty d f written name w =
      fault_behind (written_faults (declaring p.names further) ty) _ f written
      (fault_behind (fresh_name (taken_by p.names) d.name) _ f (fresh_there d.name name) (fault_front (dims_faults (declaring p.names further) d.dims) _ f w))

  pub alias_large : (ty : TypeText) (d : Declarator) (f : StaticFault) → written_faults (declaring p.names further) ty ≡ [] → fresh_name (taken_by (declared_names old.names)) d.name ≡ [] → dims_faults (declaring p.names further) d.dims ≡ [] →
      IsFaultAt (fault_if (is_large (declared_kind p.names ty d)) is.Cells d.name.at) f → IsFaultAt (item_faults (declaring p.names further) p (a_type (item.Alias ty d))) f
  alias_large ty d f written name dims w =
      fault_behind (written_faults (declaring p.names further) ty) _ f written
      (fault_behind (fresh_name (taken_by p.names) d.name) _ f (fresh_there d.name name) (fault_behind (dims_faults (declaring p.names further) d.dims) _ f dims w))

  pub alias_right : (new : Declared) (ty : TypeText) (d : Declarator) (k : Kind) → written_faults (declaring p.names further) ty ≡ [] → fresh_name (taken_by (declared_names old.names)) d.name ≡ [] → dims_faults (declaring p.names further) d.dims ≡ [] →
      is_large k ≡ false → k ≡ declared_kind p.names ty d →
      IsAdded old.names new.names (declared_names old.names ++ (d.name.text, type_of k) ∷ []) → new.sorts ≡ old.sorts → new.cells ≡ old.cells → IsAfter new (pass1_item further p (a_type (item.Alias ty d))) further
  alias_right new ty d k written name dims small same added sorts cells =
      after_type old new p further h (item.Alias ty d) (alias_other ty d)
      (added_there new ((d.name.text, type_of k) ∷ []) ((d.name.text, type_of (declared_kind p.names ty d)) ∷ []) (λ i. (d.name.text, type_of (same i)) ∷ []) added) sorts cells
      (none_both (written_faults (declaring p.names further) ty) _ written
      (none_both (fresh_name (taken_by p.names) d.name) _ (fresh_there d.name name)
      (none_both (dims_faults (declaring p.names further) d.dims) _ dims (no_fault (is_large (declared_kind p.names ty d)) is.Cells d.name.at (ap is_large (sym same) ∙ small)))))

  -- ---- structs

  struct_other : (fs : List Field) (n : Name) → IsOther (item.Structure fs n)
  struct_other fs n = record { elements = λ table. refl; parent = λ m. refl; sort = refl; children = refl }

  pub struct_fields : (fs : List Field) (n : Name) (f : StaticFault) → IsFaultAt (fields_faults (declaring p.names further) [] fs) f → IsFaultAt (item_faults (declaring p.names further) p (a_type (item.Structure fs n))) f
  struct_fields fs n f w = fault_front (fields_faults (declaring p.names further) [] fs) _ f w

  pub struct_twice : (fs : List Field) (n : Name) (f : StaticFault) → fields_faults (declaring p.names further) [] fs ≡ [] → IsFaultAt (fresh_name (taken_by (declared_names old.names)) n) f →
      IsFaultAt (item_faults (declaring p.names further) p (a_type (item.Structure fs n))) f
  struct_twice fs n f fields w = fault_behind (fields_faults (declaring p.names further) [] fs) _ f fields (fault_front (fresh_name (taken_by p.names) n) _ f (twice_there n f w))

  pub struct_large : (fs : List Field) (n : Name) (f : StaticFault) → fields_faults (declaring p.names further) [] fs ≡ [] → fresh_name (taken_by (declared_names old.names)) n ≡ [] →
      IsFaultAt (fault_if (is_large (struct n.text (field_kinds p.names fs))) is.Cells n.at) f → IsFaultAt (item_faults (declaring p.names further) p (a_type (item.Structure fs n))) f
  struct_large fs n f fields name w =
      fault_behind (fields_faults (declaring p.names further) [] fs) _ f fields (fault_behind (fresh_name (taken_by p.names) n) _ f (fresh_there n name) w)

  pub struct_right : (new : Declared) (fs : List Field) (n : Name) (ts : List FieldTy) → fields_faults (declaring p.names further) [] fs ≡ [] → fresh_name (taken_by (declared_names old.names)) n ≡ [] →
      is_large (struct n.text (field_kinds p.names fs)) ≡ false → field_kinds_of ts ≡ field_kinds p.names fs →
      IsAdded old.names new.names (declared_names old.names ++ (n.text, type_of (kind_of (Struct n.text ts))) ∷ []) → new.sorts ≡ old.sorts → new.cells ≡ old.cells → IsAfter new (pass1_item further p (a_type (item.Structure fs n))) further
  struct_right new fs n ts fields name small same added sorts cells =
      let kind : kind_of (Struct n.text ts) ≡ struct n.text (field_kinds p.names fs) = kind_of_struct n.text ts ∙ ap (struct n.text) same in
      after_type old new p further h (item.Structure fs n) (struct_other fs n)
      (added_there new ((n.text, type_of (kind_of (Struct n.text ts))) ∷ []) ((n.text, type_of (struct n.text (field_kinds p.names fs))) ∷ []) (λ i. (n.text, type_of (kind i)) ∷ []) added) sorts cells
      (none_both (fields_faults (declaring p.names further) [] fs) _ fields
      (none_both (fresh_name (taken_by p.names) n) _ (fresh_there n name) (no_fault (is_large (struct n.text (field_kinds p.names fs))) is.Cells n.at small)))
