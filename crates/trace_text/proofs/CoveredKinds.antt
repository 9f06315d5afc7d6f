-- In a spelled text without faults each code of a kind is that of an element, and each element has a name that can be printed.
use Rattle.std.proofs.Common.{◌≡◌, ℕ, ℤ, pos, Bool, true, List, [], ◌∷◌, ◌++◌, map, fold, Contains, Option, Some, None, refl, ◌∙◌, append_assoc}
use Rattle.std.specs.List.{AllByRecursion, flat_map}
use Rattle.hll_tree.specs.declared.tree.Declarator.{Declarator}
use Rattle.hll_tree.specs.declared.tree.Expr.{Expr}
use Rattle.hll_tree.specs.declared.tree.Field.{Field}
use Rattle.hll_tree.specs.declared.tree.HllModel.{HllModel}
use Rattle.hll_tree.specs.declared.tree.Name.{Name}
use Rattle.hll_tree.specs.declared.tree.TypeItem.{TypeItem}
use Rattle.hll_tree.specs.declared.tree.TypeItem.TheVariants as item
use Rattle.hll_tree.specs.declared.tree.TypeText.{TypeText}
use Rattle.hll_tree.specs.declared.tree.TypeText.TheVariants as written
use Rattle.hll_tree.proofs.GivenExpressions.{IsNamed}
use Rattle.hll_tree.proofs.Gives.{all_append, all_of_some}
use Rattle.hll_tree.proofs.LaidTokens.{IsNameText}
use Rattle.hll_meaning.specs.Kinds.{Kind, truth, whole, element, array, struct, Fields, none, field, is_in}
use Rattle.hll_meaning.specs.Names.{Thing, constant, type_of, code_in, variable, later, Names, under}
use Rattle.hll_meaning.specs.Declarations.{kind_of_thing, written_kind, with_dims, declared_kind, field_kinds, sort_kind, Item, a_constant, a_type, variables_of, items, type_items, element_table, coded, declared_by, declared_by_type, with_item, names}
use Rattle.hll_meaning.specs.StaticRules.{types_of_item, Well}
use Rattle.hll_meaning.proofs.Scenes.{under_all}
use Rattle.hll_types.proofs.SortTables.{table_further}
use Rattle.hll_meaning.specs.Texts.{HasText}
use Rattle.trace_text.proofs.DeclaredElements.{codes_covered}
use Rattle.trace_text.proofs.ElementCodes.{contained}
use Rattle.trace_text.proofs.FilledSorts.{sort_filled}
use Rattle.trace_text.proofs.RootParts.{types_of_items}
use Rattle.trace_text.proofs.SpelledItems.{IsSpelledType, IsSpelledItem, items_spelled}

-- a number is the code of an element of a root
abbrev pub IsCode : Names → List ℕ → ℤ → Type 0
IsCode all root x = (c : ℕ) × (x ≡ pos c) × ((e : List ℕ) × Contains all (e, code_in root c))

-- each code in a kind is that of an element
abbrev mutual
  pub IsCovered : Names → Kind → Type 0
  IsCovered all truth = Unit {0}
  IsCovered all (whole e) = Unit {0}
  IsCovered all (element root e) = (x : ℤ) → is_in e x ≡ true → IsCode all root x
  IsCovered all (array n k) = IsCovered all k
  IsCovered all (struct name fields) = AreCoveredFields all fields

  pub AreCoveredFields : Names → Fields → Type 0
  AreCoveredFields all none = Unit {0}
  AreCoveredFields all (field name k fields) = IsCovered all k × AreCoveredFields all fields

abbrev pub IsCoveredThing : Names → Thing → Type 0
IsCoveredThing all (constant b x) = Unit {0}
IsCoveredThing all (type_of k) = IsCovered all k
IsCoveredThing all (code_in root c) = Unit {0}
IsCoveredThing all (variable input k) = IsCovered all k
IsCoveredThing all later = Unit {0}

abbrev AreCovered : Names → Names → Type 0
AreCovered all = AllByRecursion (λ x. IsCoveredThing all x.1)

-- ---- kinds as they are written

module _ (all before : Names) (h : AreCovered all before) where
  thing_covered : (n : List ℕ) (o : Option Thing) → under n before ≡ o → IsCovered all (kind_of_thing o)
  thing_covered n None is = tt
  thing_covered n (Some (constant b x)) is = tt
  thing_covered n (Some (type_of k)) is = under_all (IsCoveredThing all) before h n (type_of k) is
  thing_covered n (Some (code_in root c)) is = tt
  thing_covered n (Some (variable input k)) is = tt
  thing_covered n (Some later) is = tt

  written_covered : (ty : TypeText) → IsCovered all (written_kind before ty)
  written_covered written.Bool = tt
  written_covered (written.Bounds a b) = tt
  written_covered (written.Signed e) = tt
  written_covered (written.Unsigned e) = tt
  written_covered (written.Named n) = thing_covered n.text (under n.text before) refl

  dims_covered : (es : List Expr) (k : Kind) → IsCovered all k → IsCovered all (with_dims before es k)
  dims_covered [] k covered = covered
  dims_covered (e ∷ es) k covered = dims_covered es k covered

  declared_covered : (ty : TypeText) (d : Declarator) → IsCovered all (declared_kind before ty d)
  declared_covered ty d = dims_covered d.dims (written_kind before ty) (written_covered ty)

  fields_covered : (fs : List Field) → AreCoveredFields all (field_kinds before fs)
  fields_covered [] = tt
  fields_covered (f ∷ fs) = (declared_covered f.ty f.of, fields_covered fs)

  variables_covered : (input : Bool) (ty : TypeText) (ds : List Declarator) → AreCovered all (map (λ d. (d.name.text, variable input (declared_kind before ty d))) ds)
  variables_covered input ty [] = tt
  variables_covered input ty (d ∷ ds) = (declared_covered ty d, variables_covered input ty ds)

-- ---- items

coded_covered : (all : Names) (types : List TypeItem) (n : List ℕ) (es : List Name) → AreCovered all (coded types n es)
coded_covered all types n [] = tt
coded_covered all types n (e ∷ es) = (tt, coded_covered all types n es)

module _ (m : HllModel) (has : HasText m) (well : Well m) where
  -- an enumeration or a sort among the types
  sort_covered : (types rest : List TypeItem) (t : TypeItem) (n : List ℕ) (es : List (List ℕ)) → element_table (types ++ t ∷ []) ≡ element_table types ++ (n, es) ∷ [] → (types ++ t ∷ []) ++ rest ≡ type_items m → IsCovered (names m) (sort_kind (type_items m) n)
  sort_covered types rest t n es table split = λ x within. codes_covered m well n (sort_filled m has well types rest t n es table split) x within

  type_covered : (types rest : List TypeItem) (before : Names) (t : TypeItem) → (types ++ t ∷ []) ++ rest ≡ type_items m → AreCovered (names m) before → AreCovered (names m) (declared_by_type (type_items m) before t)
  type_covered types rest before (item.Alias ty d) split h = (declared_covered (names m) before h ty d, tt)
  type_covered types rest before (item.Enumeration es n) split h =
      all_append (λ (x : List ℕ × Thing). IsCoveredThing (names m) x.1) (coded (type_items m) n.text es) ((n.text, type_of (sort_kind (type_items m) n.text)) ∷ []) (coded_covered (names m) (type_items m) n.text es)
      (sort_covered types rest (item.Enumeration es n) n.text _ (table_further types (item.Enumeration es n)) split, tt)
  type_covered types rest before (item.Structure fields n) split h = (fields_covered (names m) before h fields, tt)
  type_covered types rest before (item.Leaves es n) split h =
      all_append (λ (x : List ℕ × Thing). IsCoveredThing (names m) x.1) (coded (type_items m) n.text es) ((n.text, type_of (sort_kind (type_items m) n.text)) ∷ []) (coded_covered (names m) (type_items m) n.text es)
      (sort_covered types rest (item.Leaves es n) n.text _ (table_further types (item.Leaves es n)) split, tt)
  type_covered types rest before (item.Children children n) split h = (sort_covered types rest (item.Children children n) n.text _ (table_further types (item.Children children n)) split, tt)

  item_covered : (types rest : List TypeItem) (before : Names) (it : Item) → (types ++ types_of_item it) ++ rest ≡ type_items m → AreCovered (names m) before → AreCovered (names m) (declared_by (type_items m) before it)
  item_covered types rest before (a_constant k) split h = (tt, tt)
  item_covered types rest before (a_type t) split h = type_covered types rest before t split h
  item_covered types rest before (variables_of input decl) split h = variables_covered (names m) before h input decl.ty decl.names

  items_covered : (its : List Item) (types : List TypeItem) (before : Names) → types ++ flat_map types_of_item its ≡ type_items m → AreCovered (names m) before → AreCovered (names m) (fold (with_item (type_items m)) before its)
  items_covered [] types before split h = h
  items_covered (it ∷ its) types before split h =
      let rest = flat_map types_of_item its in
      let next : (types ++ types_of_item it) ++ rest ≡ type_items m = append_assoc types (types_of_item it) rest ∙ split in
      items_covered its (types ++ types_of_item it) (before ++ declared_by (type_items m) before it) next
      (all_append (λ (x : List ℕ × Thing). IsCoveredThing (names m) x.1) before (declared_by (type_items m) before it) h (item_covered types rest before it next h))

  -- the names of the text
  pub names_covered : AllByRecursion (λ (x : List ℕ × Thing). IsCoveredThing (names m) x.1) (names m)
  names_covered = items_covered (items m) [] [] (types_of_items m) tt

-- ---- names of elements

-- an element has a name that can be printed
abbrev IsNamedElement : List ℕ → Thing → Type 0
IsNamedElement n (constant b x) = Unit {0}
IsNamedElement n (type_of k) = Unit {0}
IsNamedElement n (code_in root c) = IsNameText n
IsNamedElement n (variable input k) = Unit {0}
IsNamedElement n later = Unit {0}

abbrev AreNamedElements : Names → Type 0
AreNamedElements = AllByRecursion (λ x. IsNamedElement x.0 x.1)

named_append : (xs ys : Names) → AreNamedElements xs → AreNamedElements ys → AreNamedElements (xs ++ ys)
named_append xs ys h k = all_append (λ (x : List ℕ × Thing). IsNamedElement x.0 x.1) xs ys h k

coded_named : (types : List TypeItem) (n : List ℕ) (es : List Name) → AllByRecursion IsNamed es → AreNamedElements (coded types n es)
coded_named types n [] h = tt
coded_named types n (e ∷ es) h = (h.0, coded_named types n es h.1)

variables_named : (before : Names) (input : Bool) (ty : TypeText) (ds : List Declarator) → AreNamedElements (map (λ d. (d.name.text, variable input (declared_kind before ty d))) ds)
variables_named before input ty [] = tt
variables_named before input ty (d ∷ ds) = (tt, variables_named before input ty ds)

type_named : (types : List TypeItem) (before : Names) (t : TypeItem) → IsSpelledType t → AreNamedElements (declared_by_type types before t)
type_named types before (item.Alias ty d) spelled = (tt, tt)
type_named types before (item.Enumeration es n) spelled = named_append (coded types n.text es) ((n.text, type_of (sort_kind types n.text)) ∷ []) (coded_named types n.text es (all_of_some IsNamed es spelled)) (tt, tt)
type_named types before (item.Structure fields n) spelled = (tt, tt)
type_named types before (item.Leaves es n) spelled = named_append (coded types n.text es) ((n.text, type_of (sort_kind types n.text)) ∷ []) (coded_named types n.text es (all_of_some IsNamed es spelled)) (tt, tt)
type_named types before (item.Children children n) spelled = (tt, tt)

item_named : (types : List TypeItem) (before : Names) (it : Item) → IsSpelledItem it → AreNamedElements (declared_by types before it)
item_named types before (a_constant k) spelled = (tt, tt)
item_named types before (a_type t) spelled = type_named types before t spelled
item_named types before (variables_of input decl) spelled = variables_named before input decl.ty decl.names

items_named : (types : List TypeItem) (its : List Item) (before : Names) → AllByRecursion IsSpelledItem its → AreNamedElements before → AreNamedElements (fold (with_item types) before its)
items_named types [] before spelled h = h
items_named types (it ∷ its) before spelled h =
    items_named types its (before ++ declared_by types before it) spelled.1 (named_append before (declared_by types before it) h (item_named types before it spelled.0))

-- an element of a text that is spelled
pub element_named_so : (m : HllModel) → HasText m → (root : List ℕ) (c : ℕ) (e : List ℕ) → Contains (names m) (e, code_in root c) → IsNameText e
element_named_so m has root c e there =
    contained (λ (x : List ℕ × Thing). IsNamedElement x.0 x.1) (names m) (e, code_in root c) (items_named (type_items m) (items m) [] (items_spelled m has) tt) there
