-- A variable of a text that is no input is declared as one, so it is defined.
use Rattle.std.proofs.Common.{◌≡◌, ℕ, ◌⊎◌, inl, inr, Bool, true, false, arith, List, [], ◌∷◌, ◌++◌, map, fold, refl, ap, subst}
use Rattle.std.specs.List.{Contains, flat_map}
use Rattle.std.proofs.lemmas.List.Elements.{Contains-append_cases, Contains-append_left}
use Rattle.hll_tree.specs.declared.tree.Decl.{Decl}
use Rattle.hll_tree.specs.declared.tree.Declarator.{Declarator}
use Rattle.hll_tree.specs.declared.tree.HllModel.{HllModel}
use Rattle.hll_tree.specs.declared.tree.Name.{Name}
use Rattle.hll_tree.specs.declared.tree.Section.{Section}
use Rattle.hll_tree.specs.declared.tree.Section.TheVariants as section
use Rattle.hll_tree.specs.declared.tree.TypeItem.{TypeItem}
use Rattle.hll_tree.specs.declared.tree.TypeItem.TheVariants as item
use Rattle.hll_meaning.specs.Declarations.{Item, a_constant, a_type, variables_of, items_in, items, coded, root_of, code_of, declared_kind, constant_number, declared_by_type, declared_by, with_item, type_items, names}
use Rattle.hll_meaning.specs.Kinds.{Kind}
use Rattle.hll_meaning.specs.Names.{Thing, constant, type_of, code_in, variable, Names}
use Rattle.hll_meaning.specs.StaticRules.{declared_in}
use Rattle.dependence.proofs.Members.{front_or_further, further_on, in_none, in_map, in_flat, from_map, from_flat}

-- no type and no element is a variable
coded_no_variable : (all : List TypeItem) (sort : List ℕ) (es : List Name) (n : List ℕ) (input : Bool) (k : Kind) → Contains (coded all sort es) (n, variable input k) → ⊥
coded_no_variable all sort es n input k h =
    let r = from_map {B = List ℕ × Thing} (λ (e : Name). (e.text, code_in (root_of all sort) (code_of all (root_of all sort) e.text))) es (n, variable input k) h in
    let e : code_in (root_of all sort) (code_of all (root_of all sort) r.of.text) ≡ variable input k = ap (λ (x : List ℕ × Thing). x.1) r.is in
    cc e

alone_no_variable : (own n : List ℕ) (l : Kind) (input : Bool) (k : Kind) → Contains {X = List ℕ × Thing} ((own, type_of l) ∷ []) (n, variable input k) → ⊥
alone_no_variable own n l input k h = by (front_or_further {A = List ℕ × Thing} (own, type_of l) [] (n, variable input k) h)
  where
    by : (◌≡◌ {A = List ℕ × Thing} (own, type_of l) (n, variable input k)) ⊎ Contains {X = List ℕ × Thing} [] (n, variable input k) → ⊥
    by (inl same) = let e : type_of l ≡ variable input k = ap (λ (x : List ℕ × Thing). x.1) same in cc e
    by (inr there) = in_none {A = List ℕ × Thing} (n, variable input k) there

both_no_variable : (all : List TypeItem) (es : List Name) (own n : List ℕ) (l : Kind) (input : Bool) (k : Kind) → Contains (coded all own es ++ (own, type_of l) ∷ []) (n, variable input k) → ⊥
both_no_variable all es own n l input k h = by (Contains-append_cases (coded all own es) ((own, type_of l) ∷ []) (n, variable input k) h)
  where
    by : Contains (coded all own es) (n, variable input k) ⊎ Contains {X = List ℕ × Thing} ((own, type_of l) ∷ []) (n, variable input k) → ⊥
    by (inl first) = coded_no_variable all own es n input k first
    by (inr last) = alone_no_variable own n l input k last

type_no_variable : (all : List TypeItem) (before : Names) (t : TypeItem) (n : List ℕ) (input : Bool) (k : Kind) → Contains (declared_by_type all before t) (n, variable input k) → ⊥
type_no_variable all before (item.Alias ty d) n input k h = alone_no_variable d.name.text n _ input k h
type_no_variable all before (item.Enumeration es own) n input k h = both_no_variable all es own.text n _ input k h
type_no_variable all before (item.Structure fields own) n input k h = alone_no_variable own.text n _ input k h
type_no_variable all before (item.Leaves es own) n input k h = both_no_variable all es own.text n _ input k h
type_no_variable all before (item.Children children own) n input k h = alone_no_variable own.text n _ input k h

-- a declaration of variables that are no inputs, with one of its names
pub record IsOneOf (its : List Item) (n : List ℕ) : Type 0 where
  pub decl : Decl
  pub declarator : Declarator
  pub stands : Contains its (variables_of false decl)
  pub one : Contains decl.names declarator
  pub is_name : declarator.name.text ≡ n

-- what an item declares
item_declares : (all : List TypeItem) (before : Names) (it : Item) (n : List ℕ) (k : Kind) → Contains (declared_by all before it) (n, variable false k) → IsOneOf (it ∷ []) n
item_declares all before (a_constant c) n k h = by (front_or_further {A = List ℕ × Thing} (c.name.text, constant c.boolean (constant_number before c.value)) [] (n, variable false k) h)
  where
    by : (◌≡◌ {A = List ℕ × Thing} (c.name.text, constant c.boolean (constant_number before c.value)) (n, variable false k)) ⊎ Contains {X = List ℕ × Thing} [] (n, variable false k) → IsOneOf (a_constant c ∷ []) n
    by (inl same) = let e : constant c.boolean (constant_number before c.value) ≡ variable false k = ap (λ (x : List ℕ × Thing). x.1) same in absurd (cc e)
    by (inr there) = absurd (in_none {A = List ℕ × Thing} (n, variable false k) there)
item_declares all before (a_type t) n k h = absurd (type_no_variable all before t n false k h)
item_declares all before (variables_of true decl) n k h =
    let r = from_map {B = List ℕ × Thing} (λ (d : Declarator). (d.name.text, variable true (declared_kind before decl.ty d))) decl.names (n, variable false k) h in
    let e : variable true (declared_kind before decl.ty r.of) ≡ variable false k = ap (λ (x : List ℕ × Thing). x.1) r.is in
    let f : true ≡ false = cc e in
    absurd (cc f)
item_declares all before (variables_of false decl) n k h =
    let r = from_map {B = List ℕ × Thing} (λ (d : Declarator). (d.name.text, variable false (declared_kind before decl.ty d))) decl.names (n, variable false k) h in
    record { decl = decl; declarator = r.of; stands = (0, omega arith, refl); one = r.there; is_name = ap (λ (x : List ℕ × Thing). x.0) r.is }

more_items : (it : Item) (its : List Item) (n : List ℕ) → IsOneOf its n → IsOneOf (it ∷ its) n
more_items it its n h = record { decl = h.decl; declarator = h.declarator; stands = further_on it (variables_of false h.decl) its h.stands; one = h.one; is_name = h.is_name }

first_item : (it : Item) (its : List Item) (n : List ℕ) → IsOneOf (it ∷ []) n → IsOneOf (it ∷ its) n
first_item it its n h = record { decl = h.decl; declarator = h.declarator; stands = Contains-append_left (it ∷ []) its (variables_of false h.decl) h.stands; one = h.one; is_name = h.is_name }

-- what items declare behind other names
items_declare : (all : List TypeItem) (its : List Item) (before : Names) (n : List ℕ) (k : Kind) → Contains (fold (with_item all) before its) (n, variable false k) → Contains before (n, variable false k) ⊎ IsOneOf its n
items_declare all [] before n k h = inl h
items_declare all (it ∷ its) before n k h = by (items_declare all its (with_item all before it) n k h)
  where
    here : Contains before (n, variable false k) ⊎ Contains (declared_by all before it) (n, variable false k) → Contains before (n, variable false k) ⊎ IsOneOf (it ∷ its) n
    here (inl old) = inl old
    here (inr new) = inr (first_item it its n (item_declares all before it n k new))

    by : Contains (with_item all before it) (n, variable false k) ⊎ IsOneOf its n → Contains before (n, variable false k) ⊎ IsOneOf (it ∷ its) n
    by (inl front) = here (Contains-append_cases before (declared_by all before it) (n, variable false k) front)
    by (inr behind) = inr (more_items it its n behind)

-- ---- sections

-- a name that is declared in a section as that of a variable
pub record IsDeclaredIn (ns : List Name) (n : List ℕ) : Type 0 where
  pub name : Name
  pub there : Contains ns name
  pub is : name.text ≡ n

in_section : (s : Section) (decl : Decl) (d : Declarator) → Contains (items_in s) (variables_of false decl) → Contains decl.names d → Contains (declared_in s) d.name
in_section (section.Constants xs) decl d h one = let r = from_map a_constant xs (variables_of false decl) h in absurd (cc r.is)
in_section (section.Types xs) decl d h one = let r = from_map a_type xs (variables_of false decl) h in absurd (cc r.is)
in_section (section.Inputs decls) decl d h one =
    let r = from_map (variables_of true) decls (variables_of false decl) h in
    let e : true ≡ false = cc r.is in
    absurd (cc e)
in_section (section.Declarations decls) decl d h one =
    let r = from_map (variables_of false) decls (variables_of false decl) h in
    let same : r.of ≡ decl = cc r.is in
    in_flat (λ (x : Decl). map (λ (y : Declarator). y.name) x.names) decls decl d.name (subst (Contains decls) same r.there) (in_map (λ (y : Declarator). y.name) decl.names d one)
in_section (section.Definitions defs) decl d h one = absurd (in_none (variables_of false decl) h)
in_section (section.Constraints es) decl d h one = absurd (in_none (variables_of false decl) h)
in_section (section.Obligations es) decl d h one = absurd (in_none (variables_of false decl) h)

-- a variable that is no input is declared as such
pub is_declared : (m : HllModel) (n : List ℕ) (k : Kind) → Contains (names m) (n, variable false k) → IsDeclaredIn (flat_map declared_in m.sections) n
is_declared m n k h = by (items_declare (type_items m) (items m) [] n k h)
  where
    by : Contains {X = List ℕ × Thing} [] (n, variable false k) ⊎ IsOneOf (items m) n → IsDeclaredIn (flat_map declared_in m.sections) n
    by (inl nowhere) = absurd (in_none {A = List ℕ × Thing} (n, variable false k) nowhere)
    by (inr one) =
        let s = from_flat items_in m.sections (variables_of false one.decl) one.stands in
        record { name = one.declarator.name; there = in_flat declared_in m.sections s.of one.declarator.name s.there (in_section s.of one.decl one.declarator s.here one.one); is = one.is_name }
