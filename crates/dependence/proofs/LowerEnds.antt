-- In a text without faults each range in the kind of a variable holds a number: its lower end.
use Rattle.std.proofs.Common.{◌≡◌, ℕ, zero, suc, ◌+◌, ◌-◌, ◌^◌, ◌≤◌, pos, neg_ℤ, ◌-ℤ◌, Bool, true, false, int_lt, List, [], ◌∷◌, ◌++◌, map, fold, Option, Some, None, refl, sym, subst, ◌∙◌, arith}
use Rattle.std.specs.List.{AllByRecursion, flat_map, range_with_len}
use Rattle.std.proofs.Math.Pow.{pow_mono}
use Rattle.std.proofs.lemmas.Int.{ints}
use Rattle.intervals.specs.Ends.{Ends}
use Rattle.hll_tree.specs.declared.tree.Declarator.{Declarator}
use Rattle.hll_tree.specs.declared.tree.Expr.{Expr}
use Rattle.hll_tree.specs.declared.tree.Field.{Field}
use Rattle.hll_tree.specs.declared.tree.HllModel.{HllModel}
use Rattle.hll_tree.specs.declared.tree.Name.{Name}
use Rattle.hll_tree.specs.declared.tree.TypeItem.{TypeItem}
use Rattle.hll_tree.specs.declared.tree.TypeItem.TheVariants as item
use Rattle.hll_tree.specs.declared.tree.TypeText.{TypeText}
use Rattle.hll_tree.specs.declared.tree.TypeText.TheVariants as written
use Rattle.hll_tree.proofs.Gives.{all_append}
use Rattle.hll_meaning.specs.declared.fault.StaticKind.TheVariants as is
use Rattle.hll_meaning.specs.Agreement.{without_roots, fields_without_roots, thing_without_roots, names_without_roots}
use Rattle.hll_meaning.specs.Declarations.{kind_of_thing, written_kind, with_dims, declared_kind, field_kinds, codes_of, code_of, sort_kind, coded, constant_number, constant_size, Item, a_constant, a_type, variables_of, items, type_items, declared_by, declared_by_type, with_item, names}
use Rattle.hll_meaning.specs.Judging.{judged, fault_if, wants_whole}
use Rattle.hll_meaning.specs.Kinds.{Kind, truth, whole, element, array, struct, Fields, none, field, is_in, ranges, field_ranges}
use Rattle.hll_meaning.specs.Names.{Thing, constant, type_of, code_in, variable, later, Names, under}
use Rattle.hll_meaning.specs.Runs.{variables_among, variables}
use Rattle.hll_meaning.specs.Soundness.{AreFine}
use Rattle.hll_meaning.specs.StaticRules.{declaring, written_faults, dims_faults, fields_faults, fresh_name, item_faults, type_faults, Pass1, pass1_item, pass1, pass1_faults, early, types_of_item, Well}
use Rattle.hll_meaning.specs.Values.{number}
use Rattle.hll_meaning.proofs.Agreement.{names_agree}
use Rattle.hll_meaning.proofs.Faultless.{empty_parts, first_empty, second_empty, not_so}
use Rattle.hll_meaning.proofs.FineNames.{constant_said, first_faultless, further_fine}
use Rattle.hll_meaning.proofs.Numbers.{in_holds}
use Rattle.hll_meaning.proofs.Scenes.{under_all}

-- ---- what is said of the ranges of whole numbers and of elements

abbrev mutual
  OnKind : (Ends → Type 0) → (Ends → Type 0) → Kind → Type 0
  OnKind W E truth = Unit {0}
  OnKind W E (whole e) = W e
  OnKind W E (element root e) = E e
  OnKind W E (array n k) = OnKind W E k
  OnKind W E (struct own fields) = OnFields W E fields

  OnFields : (Ends → Type 0) → (Ends → Type 0) → Fields → Type 0
  OnFields W E none = Unit {0}
  OnFields W E (field own k fields) = OnKind W E k × OnFields W E fields

abbrev OnThing : (Ends → Type 0) → (Ends → Type 0) → Thing → Type 0
OnThing W E (constant b x) = Unit {0}
OnThing W E (type_of k) = OnKind W E k
OnThing W E (code_in root c) = Unit {0}
OnThing W E (variable input k) = OnKind W E k
OnThing W E later = Unit {0}

abbrev OnNames : (Ends → Type 0) → (Ends → Type 0) → Names → Type 0
OnNames W E = AllByRecursion (λ x. OnThing W E x.1)

-- of the range that a type as it is written gives by itself
abbrev OnWritten : (Ends → Type 0) → Names → TypeText → Type 0
OnWritten W before written.Bool = Unit {0}
OnWritten W before (written.Bounds a b) = W (record { lo = constant_number before a; hi = constant_number before b })
OnWritten W before (written.Signed e) = W (record { lo = neg_ℤ (pos (2 ^ (constant_size before e - 1))); hi = pos (2 ^ (constant_size before e - 1)) -ℤ pos 1 })
OnWritten W before (written.Unsigned e) = W (record { lo = pos 0; hi = pos (2 ^ constant_size before e) -ℤ pos 1 })
OnWritten W before (written.Named n) = Unit {0}

abbrev OnType : (Ends → Type 0) → Names → TypeItem → Type 0
OnType W before (item.Alias ty d) = OnWritten W before ty
OnType W before (item.Enumeration es n) = Unit {0}
OnType W before (item.Structure fields n) = AllByRecursion (λ f. OnWritten W before f.ty) fields
OnType W before (item.Leaves es n) = Unit {0}
OnType W before (item.Children children n) = Unit {0}

abbrev OnItem : (Ends → Type 0) → Names → Item → Type 0
OnItem W before (a_constant c) = Unit {0}
OnItem W before (a_type t) = OnType W before t
OnItem W before (variables_of input decl) = OnWritten W before decl.ty

-- ---- what items declare

module _ (W E : Ends → Type 0) (sorts : (types : List TypeItem) (sort : List ℕ) → OnKind W E (sort_kind types sort)) where
  thing_so : (o : Option Thing) → ((t : Thing) → o ≡ Some t → OnThing W E t) → OnKind W E (kind_of_thing o)
  thing_so None h = tt
  thing_so (Some (constant b x)) h = tt
  thing_so (Some (type_of k)) h = h (type_of k) refl
  thing_so (Some (code_in root c)) h = tt
  thing_so (Some (variable input k)) h = tt
  thing_so (Some later) h = tt

  written_so : (before : Names) (ty : TypeText) → OnNames W E before → OnWritten W before ty → OnKind W E (written_kind before ty)
  written_so before written.Bool h own = tt
  written_so before (written.Bounds a b) h own = own
  written_so before (written.Signed e) h own = own
  written_so before (written.Unsigned e) h own = own
  written_so before (written.Named n) h own = thing_so (under n.text before) (λ t is. under_all (OnThing W E) before h n.text t is)

  dims_so : (before : Names) (es : List Expr) (k : Kind) → OnKind W E k → OnKind W E (with_dims before es k)
  dims_so before [] k h = h
  dims_so before (e ∷ es) k h = dims_so before es k h

  declared_so : (before : Names) (ty : TypeText) (d : Declarator) → OnNames W E before → OnWritten W before ty → OnKind W E (declared_kind before ty d)
  declared_so before ty d h own = dims_so before d.dims (written_kind before ty) (written_so before ty h own)

  fields_so : (before : Names) (fs : List Field) → OnNames W E before → AllByRecursion (λ f. OnWritten W before f.ty) fs → OnFields W E (field_kinds before fs)
  fields_so before [] h own = tt
  fields_so before (f ∷ fs) h own = (declared_so before f.ty f.of h own.0, fields_so before fs h own.1)

  coded_so : (types : List TypeItem) (sort : List ℕ) (es : List Name) → OnNames W E (coded types sort es)
  coded_so types sort [] = tt
  coded_so types sort (e ∷ es) = (tt, coded_so types sort es)

  variables_so : (input : Bool) (before : Names) (ty : TypeText) (ds : List Declarator) → OnNames W E before → OnWritten W before ty → OnNames W E (map {B = List ℕ × Thing} (λ d. (d.name.text, variable input (declared_kind before ty d))) ds)
  variables_so input before ty [] h own = tt
  variables_so input before ty (d ∷ ds) h own = (declared_so before ty d h own, variables_so input before ty ds h own)

  type_so : (types : List TypeItem) (before : Names) (t : TypeItem) → OnNames W E before → OnType W before t → OnNames W E (declared_by_type types before t)
  type_so types before (item.Alias ty d) h own = (declared_so before ty d h own, tt)
  type_so types before (item.Enumeration es n) h own = all_append (λ (x : List ℕ × Thing). OnThing W E x.1) (coded types n.text es) _ (coded_so types n.text es) (sorts types n.text, tt)
  type_so types before (item.Structure fields n) h own = (fields_so before fields h own, tt)
  type_so types before (item.Leaves es n) h own = all_append (λ (x : List ℕ × Thing). OnThing W E x.1) (coded types n.text es) _ (coded_so types n.text es) (sorts types n.text, tt)
  type_so types before (item.Children children n) h own = (sorts types n.text, tt)

  item_so : (types : List TypeItem) (before : Names) (it : Item) → OnNames W E before → OnItem W before it → OnNames W E (declared_by types before it)
  item_so types before (a_constant c) h own = (tt, tt)
  item_so types before (a_type t) h own = type_so types before t h own
  item_so types before (variables_of input decl) h own = variables_so input before decl.ty decl.names h own

  further_so : (types : List TypeItem) (before : Names) (it : Item) → OnNames W E before → OnItem W before it → OnNames W E (before ++ declared_by types before it)
  further_so types before it h own = all_append (λ (x : List ℕ × Thing). OnThing W E x.1) before (declared_by types before it) h (item_so types before it h own)

-- ---- the codes of sorts

-- the lower end lies in the range
abbrev pub HasLower : Ends → Type 0
HasLower e = is_in e e.lo ≡ true

-- nothing is asked
abbrev Any : Ends → Type 0
Any e = Unit {0}

lower_in : (e : Ends) → int_lt e.hi e.lo ≡ false → HasLower e
lower_in e h = in_holds e e.lo (record { above = omega (arith, ints); below = omega (arith, ints, h) })

codes_lower : (types : List TypeItem) (root : List ℕ) (es : List (List ℕ)) → HasLower (codes_of types root es)
codes_lower types root [] = refl
codes_lower types root (e ∷ es) = in_holds (codes_of types root (e ∷ es)) (pos (code_of types root e)) (record { above = omega (arith, ints); below = omega (arith, ints) })

any_written : (before : Names) (ty : TypeText) → OnWritten Any before ty
any_written before written.Bool = tt
any_written before (written.Bounds a b) = tt
any_written before (written.Signed e) = tt
any_written before (written.Unsigned e) = tt
any_written before (written.Named n) = tt

any_fields : (before : Names) (fs : List Field) → AllByRecursion (λ f. OnWritten Any before f.ty) fs
any_fields before [] = tt
any_fields before (f ∷ fs) = (any_written before f.ty, any_fields before fs)

any_item : (before : Names) (it : Item) → OnItem Any before it
any_item before (a_constant c) = tt
any_item before (a_type (item.Alias ty d)) = any_written before ty
any_item before (a_type (item.Enumeration es n)) = tt
any_item before (a_type (item.Structure fields n)) = any_fields before fields
any_item before (a_type (item.Leaves es n)) = tt
any_item before (a_type (item.Children children n)) = tt
any_item before (variables_of input decl) = any_written before decl.ty

elements_lower : (types : List TypeItem) (its : List Item) (before : Names) → OnNames Any HasLower before → OnNames Any HasLower (fold (with_item types) before its)
elements_lower types [] before h = h
elements_lower types (it ∷ its) before h =
    elements_lower types its (with_item types before it) (further_so Any HasLower (λ all sort. codes_lower all _ _) types before it h (any_item before it))

-- ---- ranges as they are written

one_power : (size : ℕ) → 1 ≤ 2 ^ size
one_power size = pow_mono {i = 0} {j = size} (omega arith)

signed_lower : (n : ℕ) → 1 ≤ n → HasLower (record { lo = neg_ℤ (pos n); hi = pos n -ℤ pos 1 })
signed_lower n some = in_holds (record { lo = neg_ℤ (pos n); hi = pos n -ℤ pos 1 }) (neg_ℤ (pos n)) (record { above = omega (arith, ints); below = omega (arith, ints) })

unsigned_lower : (n : ℕ) → 1 ≤ n → HasLower (record { lo = pos 0; hi = pos n -ℤ pos 1 })
unsigned_lower n some = in_holds (record { lo = pos 0; hi = pos n -ℤ pos 1 }) (pos 0) (record { above = omega (arith, ints); below = omega (arith, ints) })

module _ (before : Names) (further : List (List ℕ)) (fine : AreFine before) where
  written_lower : (ty : TypeText) → written_faults (declaring before further) ty ≡ [] → OnWritten HasLower before ty
  written_lower written.Bool clean = tt
  written_lower (written.Bounds a b) clean =
      let j = judged a (declaring before further) in
      let k = judged b (declaring before further) in
      let p = empty_parts j.faults _ clean in
      let q = empty_parts k.faults _ p.1 in
      let ordered = first_empty (fault_if (int_lt (number k.value) (number j.value)) is.Range j.at) _ (second_empty (wants_whole k) _ (second_empty (wants_whole j) _ q.1)) in
      let lo = (constant_said before further a fine p.0).0 in
      let hi = (constant_said before further b fine q.0).0 in
      lower_in (record { lo = constant_number before a; hi = constant_number before b })
      ((λ i. int_lt (number (sym hi i)) (number (sym lo i))) ∙ not_so (int_lt (number k.value) (number j.value)) is.Range j.at ordered)
  written_lower (written.Signed e) clean = signed_lower (2 ^ (constant_size before e - 1)) (one_power (constant_size before e - 1))
  written_lower (written.Unsigned e) clean = unsigned_lower (2 ^ constant_size before e) (one_power (constant_size before e))
  written_lower (written.Named n) clean = tt

  fields_lower : (taken : List (List ℕ)) (fs : List Field) → fields_faults (declaring before further) taken fs ≡ [] → AllByRecursion (λ f. OnWritten HasLower before f.ty) fs
  fields_lower taken [] clean = tt
  fields_lower taken (f ∷ fs) clean =
      let c = declaring before further in
      let p = empty_parts (written_faults c f.ty) _ (second_empty (fresh_name taken f.of.name) _ clean) in
      (written_lower f.ty p.0, fields_lower (f.of.name.text ∷ taken) fs (second_empty (dims_faults c f.of.dims) _ p.1))

  type_lower : (others : List TypeItem) (t : TypeItem) → type_faults (declaring before further) others before t ≡ [] → OnType HasLower before t
  type_lower others (item.Alias ty d) clean = written_lower ty (first_empty (written_faults (declaring before further) ty) _ clean)
  type_lower others (item.Enumeration es n) clean = tt
  type_lower others (item.Structure fields n) clean = fields_lower [] fields (first_empty (fields_faults (declaring before further) [] fields) _ clean)
  type_lower others (item.Leaves es n) clean = tt
  type_lower others (item.Children children n) clean = tt

item_lower : (further : List (List ℕ)) (p : Pass1) (it : Item) → AreFine p.names → item_faults (declaring p.names further) p it ≡ [] → OnItem HasLower p.names it
item_lower further p (a_constant k) fine clean = tt
item_lower further p (a_type t) fine clean = type_lower p.names further fine p.types t clean
item_lower further p (variables_of input decl) fine clean = written_lower p.names further fine decl.ty (first_empty (written_faults (declaring p.names further) decl.ty) _ clean)

items_lower : (further : List (List ℕ)) (its : List Item) (p : Pass1) → AreFine p.names → OnNames HasLower Any p.names → (fold (pass1_item further) p its).faults ≡ [] → OnNames HasLower Any (fold (pass1_item further) p its).names
items_lower further [] p fine h clean = h
items_lower further (it ∷ its) p fine h clean =
    let first = first_faultless further it its p clean in
    items_lower further its (pass1_item further p it) (further_fine further p it fine first)
    (further_so HasLower Any (λ all sort. tt) (p.types ++ types_of_item it) p.names it h (item_lower further p it fine first)) clean

-- ---- names that agree but for elements

mutual
  kind_without : (W : Ends → Type 0) (k : Kind) → OnKind W Any k → OnKind W Any (without_roots k)
  kind_without W truth h = tt
  kind_without W (whole e) h = h
  kind_without W (element root e) h = tt
  kind_without W (array n k) h = kind_without W k h
  kind_without W (struct own fields) h = fields_without W fields h

  fields_without : (W : Ends → Type 0) (fields : Fields) → OnFields W Any fields → OnFields W Any (fields_without_roots fields)
  fields_without W none h = tt
  fields_without W (field own k fields) h = (kind_without W k h.0, fields_without W fields h.1)

-- what is said of whole numbers without roots, and of elements, is said of both
mutual
  kind_with : (W E : Ends → Type 0) (k : Kind) → OnKind W Any (without_roots k) → OnKind Any E k → OnKind W E k
  kind_with W E truth h g = tt
  kind_with W E (whole e) h g = h
  kind_with W E (element root e) h g = g
  kind_with W E (array n k) h g = kind_with W E k h g
  kind_with W E (struct own fields) h g = fields_with W E fields h g

  fields_with : (W E : Ends → Type 0) (fields : Fields) → OnFields W Any (fields_without_roots fields) → OnFields Any E fields → OnFields W E fields
  fields_with W E none h g = tt
  fields_with W E (field own k fields) h g = (kind_with W E k h.0 g.0, fields_with W E fields h.1 g.1)

thing_without : (W : Ends → Type 0) (t : Thing) → OnThing W Any t → OnThing W Any (thing_without_roots t)
thing_without W (constant b x) h = tt
thing_without W (type_of k) h = kind_without W k h
thing_without W (code_in root c) h = tt
thing_without W (variable input k) h = kind_without W k h
thing_without W later h = tt

thing_with : (W E : Ends → Type 0) (t : Thing) → OnThing W Any (thing_without_roots t) → OnThing Any E t → OnThing W E t
thing_with W E (constant b x) h g = tt
thing_with W E (type_of k) h g = kind_with W E k h g
thing_with W E (code_in root c) h g = tt
thing_with W E (variable input k) h g = kind_with W E k h g
thing_with W E later h g = tt

names_without : (W : Ends → Type 0) (xs : Names) → OnNames W Any xs → OnNames W Any (names_without_roots xs)
names_without W [] h = tt
names_without W (x ∷ xs) h = (thing_without W x.1 h.0, names_without W xs h.1)

names_with : (W E : Ends → Type 0) (xs : Names) → OnNames W Any (names_without_roots xs) → OnNames Any E xs → OnNames W E xs
names_with W E [] h g = tt
names_with W E (x ∷ xs) h g = (thing_with W E x.1 h.0 g.0, names_with W E xs h.1 g.1)

-- ---- texts

names_lower : (m : HllModel) → Well m → OnNames HasLower HasLower (names m)
names_lower m well =
    let clean = first_empty (pass1_faults m) _ well in
    let wholes = items_lower (early m) (items m) (record { names = []; types = []; cells = 0; faults = [] }) tt tt clean in
    names_with HasLower HasLower (names m) (subst (OnNames HasLower Any) (names_agree m clean) (names_without HasLower (pass1 m).names wholes)) (elements_lower (type_items m) (items m) [] tt)

copies_lower : (es : List Ends) (a n : ℕ) → AllByRecursion HasLower es → AllByRecursion HasLower (flat_map (λ k. es) (range_with_len a n))
copies_lower es a zero h = tt
copies_lower es a (suc n) h = all_append HasLower es (flat_map (λ k. es) (range_with_len (a + 1) n)) h (copies_lower es (a + 1) n h)

mutual
  ranges_lower : (k : Kind) → OnKind HasLower HasLower k → AllByRecursion HasLower (ranges k)
  ranges_lower truth h = (refl, tt)
  ranges_lower (whole e) h = (h, tt)
  ranges_lower (element root e) h = (h, tt)
  ranges_lower (array n k) h = copies_lower (ranges k) 0 n (ranges_lower k h)
  ranges_lower (struct own fields) h = fields_ranges_lower fields h

  fields_ranges_lower : (fields : Fields) → OnFields HasLower HasLower fields → AllByRecursion HasLower (field_ranges fields)
  fields_ranges_lower none h = tt
  fields_ranges_lower (field own k fields) h = all_append HasLower (ranges k) (field_ranges fields) (ranges_lower k h.0) (fields_ranges_lower fields h.1)

among_lower : (xs : Names) → OnNames HasLower HasLower xs → AllByRecursion (λ x. AllByRecursion HasLower (ranges x.1)) (variables_among xs)
among_lower [] h = tt
among_lower ((own, constant b x) ∷ xs) h = among_lower xs h.1
among_lower ((own, type_of k) ∷ xs) h = among_lower xs h.1
among_lower ((own, code_in root c) ∷ xs) h = among_lower xs h.1
among_lower ((own, variable input k) ∷ xs) h = (ranges_lower k h.0, among_lower xs h.1)
among_lower ((own, later) ∷ xs) h = among_lower xs h.1

-- each range in the kind of a variable has its lower end
pub variables_lower : (m : HllModel) → Well m → AllByRecursion (λ x. AllByRecursion HasLower (ranges x.1)) (variables m)
variables_lower m well = among_lower (names m) (names_lower m well)
