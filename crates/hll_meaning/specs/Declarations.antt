-- What a text declares, in text order: its constants, types, elements and variables.
use Rattle.std.specs.Prelude.{ℕ, suc, ◌+◌, ◌-◌, ◌^◌, ℤ, pos, neg_ℤ, ◌-ℤ◌, Bool, true, false, List, [], ◌∷◌, ◌++◌, map, length, fold, Option, Some, None, unwrap_or, unsigned_abs, if◌then◌else◌}
use Rattle.std.specs.List.{flat_map, list_any}
use Rattle.std.specs.Str.{bytes_eq}
use Rattle.intervals.specs.Ends.{Ends}
use Rattle.hll_tree.specs.declared.tree.ConstItem.{ConstItem}
use Rattle.hll_tree.specs.declared.tree.Decl.{Decl}
use Rattle.hll_tree.specs.declared.tree.Declarator.{Declarator}
use Rattle.hll_tree.specs.declared.tree.Expr.{Expr}
use Rattle.hll_tree.specs.declared.tree.Field.{Field}
use Rattle.hll_tree.specs.declared.tree.HllModel.{HllModel}
use Rattle.hll_tree.specs.declared.tree.Name.{Name}
use Rattle.hll_tree.specs.declared.tree.Section.{Section}
use Rattle.hll_tree.specs.declared.tree.Section.TheVariants as section
use Rattle.hll_tree.specs.declared.tree.TypeItem.{TypeItem}
use Rattle.hll_tree.specs.declared.tree.TypeItem.TheVariants as item
use Rattle.hll_tree.specs.declared.tree.TypeText.{TypeText}
use Rattle.hll_tree.specs.declared.tree.TypeText.TheVariants as written
use Rattle.hll_meaning.specs.Kinds.{Kind, truth, whole, element, array, struct, Fields, none, field, Value}
use Rattle.hll_meaning.specs.Names.{Thing, constant, type_of, code_in, variable, later, Names, under}
use Rattle.hll_meaning.specs.Values.{number, worth}

-- ---- sorts and enumerations

-- the type items of a section
abbrev pub type_items_in : Section → List TypeItem
type_items_in (section.Constants items) = []
type_items_in (section.Types items) = items
type_items_in (section.Inputs decls) = []
type_items_in (section.Declarations decls) = []
type_items_in (section.Definitions defs) = []
type_items_in (section.Constraints es) = []
type_items_in (section.Obligations es) = []

-- all type items of a text
abbrev pub type_items : HllModel → List TypeItem
type_items m = flat_map type_items_in m.sections

-- names as they are named, without their places
abbrev pub texts : List Name → List (List ℕ)
texts = map (λ n. n.text)

-- whether a name is among names
abbrev pub is_among : List (List ℕ) → List ℕ → Bool
is_among names sought = list_any (λ n. bytes_eq n sought) names

-- the elements that stand under a name: none where it is no enumeration and no sort
abbrev pub elements_under : List (List ℕ × List (List ℕ)) → List ℕ → List (List ℕ)
elements_under sorts sought = unwrap_or (under sought sorts) []

-- the elements of an enumeration or of a sort, in their order: a sort that joins others has those of its children
abbrev pub with_elements : List (List ℕ × List (List ℕ)) → TypeItem → List (List ℕ × List (List ℕ))
with_elements sorts (item.Alias ty declarator) = sorts
with_elements sorts (item.Enumeration names n) = sorts ++ ((n.text, texts names) ∷ [])
with_elements sorts (item.Structure fields n) = sorts
with_elements sorts (item.Leaves names n) = sorts ++ ((n.text, texts names) ∷ [])
with_elements sorts (item.Children children n) = sorts ++ ((n.text, flat_map (elements_under sorts) (texts children)) ∷ [])

-- the enumerations and sorts of a text with their elements
abbrev pub element_table : List TypeItem → List (List ℕ × List (List ℕ))
element_table items = fold with_elements [] items

-- the sort itself, or the one that an item joins it to
abbrev pub parent_in : List ℕ → TypeItem → List ℕ
parent_in sort (item.Alias ty declarator) = sort
parent_in sort (item.Enumeration names n) = sort
parent_in sort (item.Structure fields n) = sort
parent_in sort (item.Leaves names n) = sort
parent_in sort (item.Children children n) = if is_among (texts children) sort then n.text else sort

-- the root of a sort: the one above it that has no parent
abbrev pub root_of : List TypeItem → List ℕ → List ℕ
root_of items sort = fold parent_in sort items

-- how many names stand before a name
abbrev pub place_of : List (List ℕ) → List ℕ → ℕ
place_of [] sought = 0
place_of (n ∷ names) sought = if bytes_eq n sought then 0 else suc (place_of names sought)

-- the code of an element of a root: its place there
abbrev pub code_of : List TypeItem → List ℕ → List ℕ → ℕ
code_of items root e = place_of (elements_under (element_table items) root) e

-- the codes of a sort: those of its elements, which stand one after the other in its root
abbrev pub codes_of : List TypeItem → List ℕ → List (List ℕ) → Ends
codes_of items root [] = record { lo = pos 0; hi = pos 0 }
codes_of items root (e ∷ es) = record { lo = pos (code_of items root e); hi = pos (code_of items root e + length es) }

-- the kind of an enumeration's or a sort's elements
abbrev pub sort_kind : List TypeItem → List ℕ → Kind
sort_kind items sort = element (root_of items sort) (codes_of items (root_of items sort) (elements_under (element_table items) sort))

-- ---- types as they are written

-- the value of a constant expression
abbrev pub constant_value : Names → Expr → Value
constant_value names e = worth e (record { names = names; history = []; time = 0; bound = [] })

-- the number of a constant expression
abbrev pub constant_number : Names → Expr → ℤ
constant_number names e = number (constant_value names e)

-- the size that a constant expression gives
abbrev pub constant_size : Names → Expr → ℕ
constant_size names e = unsigned_abs (constant_number names e)

-- the kind of a thing that is a type
abbrev pub kind_of_thing : Option Thing → Kind
kind_of_thing None = truth
kind_of_thing (Some (constant b x)) = truth
kind_of_thing (Some (type_of k)) = k
kind_of_thing (Some (code_in root c)) = truth
kind_of_thing (Some (variable input k)) = truth
kind_of_thing (Some later) = truth

-- the kind of a type as it is written, without dimensions
abbrev pub written_kind : Names → TypeText → Kind
written_kind names written.Bool = truth
written_kind names (written.Bounds a b) = whole (record { lo = constant_number names a; hi = constant_number names b })
written_kind names (written.Signed e) = whole (record { lo = neg_ℤ (pos (2 ^ (constant_size names e - 1))); hi = pos (2 ^ (constant_size names e - 1)) -ℤ pos 1 })
written_kind names (written.Unsigned e) = whole (record { lo = pos 0; hi = pos (2 ^ constant_size names e) -ℤ pos 1 })
written_kind names (written.Named n) = kind_of_thing (under n.text names)

-- an array for each dimension, the first outermost
abbrev pub with_dims : Names → List Expr → Kind → Kind
with_dims names [] k = k
with_dims names (e ∷ es) k = array (constant_size names e) (with_dims names es k)

-- the kind that a declarator gives its name
abbrev pub declared_kind : Names → TypeText → Declarator → Kind
declared_kind names ty d = with_dims names d.dims (written_kind names ty)

-- the fields of a struct
abbrev pub field_kinds : Names → List Field → Fields
field_kinds names [] = none
field_kinds names (f ∷ fs) = field f.of.name.text (declared_kind names f.ty f.of) (field_kinds names fs)

-- ---- what is declared

-- an item that declares: a constant, a type, or variables, which are inputs or not
pub data Item : Type 0 where
  a_constant : ConstItem → Item
  a_type : TypeItem → Item
  variables_of : Bool → Decl → Item

-- the items of a section that declare
abbrev pub items_in : Section → List Item
items_in (section.Constants items) = map a_constant items
items_in (section.Types items) = map a_type items
items_in (section.Inputs decls) = map (variables_of true) decls
items_in (section.Declarations decls) = map (variables_of false) decls
items_in (section.Definitions defs) = []
items_in (section.Constraints es) = []
items_in (section.Obligations es) = []

-- the items of a text that declare, in text order
abbrev pub items : HllModel → List Item
items m = flat_map items_in m.sections

-- elements with their codes
abbrev pub coded : List TypeItem → List ℕ → List Name → Names
coded all sort es = map (λ e. (e.text, code_in (root_of all sort) (code_of all (root_of all sort) e.text))) es

-- what a type item declares, given all type items and what was declared before
abbrev pub declared_by_type : List TypeItem → Names → TypeItem → Names
declared_by_type all names (item.Alias ty d) = (d.name.text, type_of (declared_kind names ty d)) ∷ []
declared_by_type all names (item.Enumeration es n) = coded all n.text es ++ ((n.text, type_of (sort_kind all n.text)) ∷ [])
declared_by_type all names (item.Structure fields n) = (n.text, type_of (struct n.text (field_kinds names fields))) ∷ []
declared_by_type all names (item.Leaves es n) = coded all n.text es ++ ((n.text, type_of (sort_kind all n.text)) ∷ [])
declared_by_type all names (item.Children children n) = (n.text, type_of (sort_kind all n.text)) ∷ []

-- what an item declares
abbrev pub declared_by : List TypeItem → Names → Item → Names
declared_by all names (a_constant c) = (c.name.text, constant c.boolean (constant_number names c.value)) ∷ []
declared_by all names (a_type t) = declared_by_type all names t
declared_by all names (variables_of input decl) = map (λ d. (d.name.text, variable input (declared_kind names decl.ty d))) decl.names

-- the same after what was declared before
abbrev pub with_item : List TypeItem → Names → Item → Names
with_item all names it = names ++ declared_by all names it

-- all that a text declares, in text order
abbrev pub names : HllModel → Names
names m = fold (with_item (type_items m)) [] (items m)
