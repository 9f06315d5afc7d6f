-- The static rules: all faults of a text in the order in which its three passes meet them, and the first of them.
use Rattle.std.specs.Prelude.{◌≡◌, ℕ, ◌+◌, nat_lt, pos, ◌-ℤ◌, int_lt, Bool, true, false, not, ◌&&◌, ◌||◌, List, [], ◌∷◌, ◌++◌, map, fold, Option, Some, None, if◌then◌else◌}
use Rattle.std.specs.List.{flat_map, list_any, filter}
use Rattle.std.specs.Str.{bytes_eq}
use Rattle.hll_tree.specs.declared.tree.ConstItem.{ConstItem}
use Rattle.hll_tree.specs.declared.tree.Decl.{Decl}
use Rattle.hll_tree.specs.declared.tree.Declarator.{Declarator}
use Rattle.hll_tree.specs.declared.tree.Def.{Def}
use Rattle.hll_tree.specs.declared.tree.Expr.{Expr}
use Rattle.hll_tree.specs.declared.tree.Field.{Field}
use Rattle.hll_tree.specs.declared.tree.HllModel.{HllModel}
use Rattle.hll_tree.specs.declared.tree.Name.{Name}
use Rattle.hll_tree.specs.declared.tree.Part.{Part}
use Rattle.hll_tree.specs.declared.tree.Part.TheVariants as part
use Rattle.hll_tree.specs.declared.tree.Section.{Section}
use Rattle.hll_tree.specs.declared.tree.Section.TheVariants as section
use Rattle.hll_tree.specs.declared.tree.Slot.{Slot}
use Rattle.hll_tree.specs.declared.tree.Slot.TheVariants as slot
use Rattle.hll_tree.specs.declared.tree.TypeItem.{TypeItem}
use Rattle.hll_tree.specs.declared.tree.TypeItem.TheVariants as item
use Rattle.hll_tree.specs.declared.tree.TypeText.{TypeText}
use Rattle.hll_tree.specs.declared.tree.TypeText.TheVariants as written
use Rattle.hll_meaning.specs.declared.fault.StaticKind.TheVariants as is
use Rattle.hll_meaning.specs.Kinds.{Kind, truth, whole, element, array, struct, cells, levels}
use Rattle.hll_meaning.specs.Names.{Thing, constant, type_of, code_in, variable, later, Names, under}
use Rattle.hll_meaning.specs.Values.{number}
use Rattle.hll_meaning.specs.Declarations.{texts, is_among, declared_kind, field_kinds, Item, a_constant, a_type, variables_of, items, declared_by, names}
use Rattle.hll_meaning.specs.Runs.{definitions}
use Rattle.hll_meaning.specs.Judging.{Fault, fault_if, Context, Judged, judged, wants_truth, wants_whole, bounds_of, from_to}

-- ---- declared names

-- names that are new: none of those that are taken, and none a second time
abbrev pub fresh : List (List ℕ) → List Name → List Fault
fresh taken [] = []
fresh taken (n ∷ ns) = fault_if (is_among taken n.text) is.Twice n.at ++ fresh (n.text ∷ taken) ns

-- one name that is new
abbrev pub fresh_name : List (List ℕ) → Name → List Fault
fresh_name taken n = fresh taken (n ∷ [])

-- the names that are declared
abbrev pub taken_by : Names → List (List ℕ)
taken_by = map (λ x. x.0)

-- the names of a type item's elements
abbrev pub elements_of : TypeItem → List (List ℕ)
elements_of (item.Alias ty d) = []
elements_of (item.Enumeration es n) = texts es
elements_of (item.Structure fields n) = []
elements_of (item.Leaves es n) = texts es
elements_of (item.Children children n) = []

-- the names of the variables and elements of an item, which pass 1 knows wherever they stand
abbrev pub early_in : Item → List (List ℕ)
early_in (a_constant k) = []
early_in (a_type t) = elements_of t
early_in (variables_of input decl) = map (λ d. d.name.text) decl.names

-- those of a text
abbrev pub early : HllModel → List (List ℕ)
early m = flat_map early_in (items m)

-- where an expression of a declaration stands: behind what was declared before; of variables and elements further on only that
-- they are there
abbrev pub declaring : Names → List (List ℕ) → Context
declaring before further = record { names = before ++ map (λ n. (n, later)) further; bound = []; needs_constant = true }

-- ---- types

-- a number of binary digits: 1 to 64
abbrev pub size_faults : Judged → List Fault
size_faults j = j.faults ++ (wants_whole j ++ fault_if (int_lt (number j.value) (pos 1) || int_lt (pos 64) (number j.value)) is.Range j.at)

-- a dimension: at least 1
abbrev pub dim_faults : Judged → List Fault
dim_faults j = j.faults ++ (wants_whole j ++ fault_if (int_lt (number j.value) (pos 1)) is.Range j.at)

-- a name where a type is wanted
abbrev pub type_name_faults : ℕ → Option Thing → List Fault
type_name_faults at None = fault_if true is.Unknown at
type_name_faults at (Some (constant b x)) = fault_if true is.Kind at
type_name_faults at (Some (type_of k)) = []
type_name_faults at (Some (code_in root c)) = fault_if true is.Kind at
type_name_faults at (Some (variable input k)) = fault_if true is.Kind at
type_name_faults at (Some later) = fault_if true is.Kind at

-- a type as it is written
abbrev pub written_faults : Context → TypeText → List Fault
written_faults c written.Bool = []
written_faults c (written.Bounds a b) = (bounds_of (judged a c) (judged b c)).faults
written_faults c (written.Signed e) = size_faults (judged e c)
written_faults c (written.Unsigned e) = size_faults (judged e c)
written_faults c (written.Named n) = type_name_faults n.at (under n.text c.names)

-- dimensions, one by one
abbrev pub dims_faults : Context → List Expr → List Fault
dims_faults c = flat_map (λ e. dim_faults (judged e c))

-- more than 100,000 cells, or more than 200 levels
abbrev pub is_large : Kind → Bool
is_large k = nat_lt 100000 (cells k) || nat_lt 200 (levels k)

-- the fields of a struct: names of their own, types, dimensions
abbrev pub fields_faults : Context → List (List ℕ) → List Field → List Fault
fields_faults c taken [] = []
fields_faults c taken (f ∷ fs) = fresh_name taken f.of.name ++ (written_faults c f.ty ++ (dims_faults c f.of.dims ++ fields_faults c (f.of.name.text ∷ taken) fs))

-- the name of a sort that a type item declares
abbrev pub sort_of : TypeItem → List (List ℕ)
sort_of (item.Alias ty d) = []
sort_of (item.Enumeration es n) = []
sort_of (item.Structure fields n) = []
sort_of (item.Leaves es n) = n.text ∷ []
sort_of (item.Children children n) = n.text ∷ []

-- the sorts that a type item gives a parent
abbrev pub children_of : TypeItem → List (List ℕ)
children_of (item.Alias ty d) = []
children_of (item.Enumeration es n) = []
children_of (item.Structure fields n) = []
children_of (item.Leaves es n) = []
children_of (item.Children children n) = texts children

-- one child: it is declared, has no parent yet, and is a sort
abbrev pub child_faults : Context → List (List ℕ) → List (List ℕ) → Name → List Fault
child_faults c sorts joined n =
    unknown (under n.text c.names) ++ (fault_if (is_among joined n.text) is.Twice n.at ++ fault_if (not (is_among sorts n.text)) is.Kind n.at)
  where
    unknown : Option Thing → List Fault
    unknown None = fault_if true is.Unknown n.at
    unknown (Some thing) = []

-- the children of a sort, one by one
abbrev pub children_faults : Context → List (List ℕ) → List (List ℕ) → List Name → List Fault
children_faults c sorts joined [] = []
children_faults c sorts joined (n ∷ ns) = child_faults c sorts joined n ++ children_faults c sorts (n.text ∷ joined) ns

-- a type item, after other type items and names
abbrev pub type_faults : Context → List TypeItem → Names → TypeItem → List Fault
type_faults c before taken (item.Alias ty d) =
    written_faults c ty ++ (fresh_name (taken_by taken) d.name ++ (dims_faults c d.dims ++ fault_if (is_large (declared_kind taken ty d)) is.Cells d.name.at))
type_faults c before taken (item.Enumeration es n) = fresh (taken_by taken) (es ++ (n ∷ []))
type_faults c before taken (item.Structure fields n) =
    fields_faults c [] fields ++ (fresh_name (taken_by taken) n ++ fault_if (is_large (struct n.text (field_kinds taken fields))) is.Cells n.at)
type_faults c before taken (item.Leaves es n) = fresh (taken_by taken) (es ++ (n ∷ []))
type_faults c before taken (item.Children children n) =
    children_faults c (flat_map sort_of before) (flat_map children_of before) children ++ fresh_name (taken_by taken) n

-- ---- pass 1

-- pass 1 so far: what is declared, the type items, the cells of the variables, and the faults
pub record Pass1 : Type 0 where
  pub names : Names
  pub types : List TypeItem
  pub cells : ℕ
  pub faults : List Fault

-- the value of a constant is of its kind
abbrev pub wants_constant : Bool → Judged → List Fault
wants_constant true j = wants_truth j
wants_constant false j = wants_whole j

-- a constant
abbrev pub constant_faults : Context → Names → ConstItem → List Fault
constant_faults c taken k = fresh_name (taken_by taken) k.name ++ ((judged k.value c).faults ++ wants_constant k.boolean (judged k.value c))

-- declarators one by one, after taken names and so many cells
abbrev pub declarators_faults : Context → Names → TypeText → List (List ℕ) → ℕ → List Declarator → List Fault
declarators_faults c before ty taken total [] = []
declarators_faults c before ty taken total (d ∷ ds) =
    fresh_name taken d.name ++ (dims_faults c d.dims ++
    (fault_if (is_large (declared_kind before ty d) || nat_lt 100000 (total + cells (declared_kind before ty d))) is.Cells d.name.at ++
    declarators_faults c before ty (d.name.text ∷ taken) (total + cells (declared_kind before ty d)) ds))

-- the cells of a declaration
abbrev pub declared_cells : Names → Decl → ℕ
declared_cells before decl = fold (λ total d. total + cells (declared_kind before decl.ty d)) 0 decl.names

-- the faults of an item
abbrev pub item_faults : Context → Pass1 → Item → List Fault
item_faults c p (a_constant k) = constant_faults c p.names k
item_faults c p (a_type t) = type_faults c p.types p.names t
item_faults c p (variables_of input decl) = written_faults c decl.ty ++ declarators_faults c p.names decl.ty (taken_by p.names) p.cells decl.names

-- the type items of an item
abbrev pub types_of_item : Item → List TypeItem
types_of_item (a_constant k) = []
types_of_item (a_type t) = t ∷ []
types_of_item (variables_of input decl) = []

-- the cells of an item's variables
abbrev pub cells_of_item : Names → Item → ℕ
cells_of_item before (a_constant k) = 0
cells_of_item before (a_type t) = 0
cells_of_item before (variables_of input decl) = declared_cells before decl

-- One item further. A sort is its own root until an item joins it: no constant is an element, so pass 1 can't tell.
abbrev pub pass1_item : List (List ℕ) → Pass1 → Item → Pass1
pass1_item further p it = record {
  names = p.names ++ declared_by (p.types ++ types_of_item it) p.names it;
  types = p.types ++ types_of_item it;
  cells = p.cells + cells_of_item p.names it;
  faults = p.faults ++ item_faults (declaring p.names further) p it;
}

-- pass 1 behind the last item
abbrev pub pass1 : HllModel → Pass1
pass1 m = fold (pass1_item (early m)) (record { names = []; types = []; cells = 0; faults = [] }) (items m)

-- the faults of constants, types, inputs and declarations
abbrev pub pass1_faults : HllModel → List Fault
pass1_faults m = (pass1 m).faults

-- ---- definitions

-- whether a part is a value, whole, at the first instant, or for the next one
pub data PartKind : Type 0 where
  value : PartKind
  both : PartKind
  first : PartKind
  next : PartKind

-- which part it is
abbrev pub part_kind : Part → PartKind
part_kind (part.Value e) = value
part_kind (part.Both e f) = both
part_kind (part.First e) = first
part_kind (part.Next e) = next

-- a value or both parts
abbrev pub is_complete : PartKind → Bool
is_complete value = true
is_complete both = true
is_complete first = false
is_complete next = false

-- the first one alone
abbrev pub is_first : PartKind → Bool
is_first value = false
is_first both = false
is_first first = true
is_first next = false

-- the next one alone
abbrev pub is_next : PartKind → Bool
is_next value = false
is_next both = false
is_next first = false
is_next next = true

-- whether a part comes twice, after an earlier one
abbrev pub clashes : PartKind → PartKind → Bool
clashes earlier p = is_complete earlier || (is_complete p || ((is_first earlier && is_first p) || (is_next earlier && is_next p)))

-- the definitions of a name
abbrev pub definitions_of : List Def → List ℕ → List Def
definitions_of defs name = filter (λ d. bytes_eq d.name.text name) defs

-- whether an earlier definition has the part already
abbrev pub is_repeated : List Def → Def → Bool
is_repeated before d = list_any (λ e. clashes (part_kind e.part) (part_kind d.part)) (definitions_of before d.name.text)

-- a left side so far: what is left of the variable's kind, the index names with their kinds, the innermost first, and the faults
pub record Left : Type 0 where
  pub kind : Kind
  pub bound : List (List ℕ × Kind)
  pub faults : List Fault

-- the index name of a level; there is a fault where no level is left
abbrev pub index_level : Name → Left → Kind → Left
index_level n l truth = record { kind = l.kind; bound = l.bound; faults = l.faults ++ fault_if true is.Shape n.at }
index_level n l (whole e) = record { kind = l.kind; bound = l.bound; faults = l.faults ++ fault_if true is.Shape n.at }
index_level n l (element root e) = record { kind = l.kind; bound = l.bound; faults = l.faults ++ fault_if true is.Shape n.at }
index_level n l (array size k) = record { kind = k; bound = (n.text, whole (from_to (pos 0) (pos size -ℤ pos 1))) ∷ l.bound; faults = l.faults }
index_level n l (struct name fields) = record { kind = l.kind; bound = l.bound; faults = l.faults ++ fault_if true is.Shape n.at }

-- one slot: an index name that is new; a number isn't allowed yet
abbrev pub with_slot : Left → Slot → Left
with_slot l (slot.Index n) =
    index_level n (record { kind = l.kind; bound = l.bound; faults = l.faults ++ fresh_name (map (λ x. x.0) l.bound) n }) l.kind
with_slot l (slot.Fixed at position) = record { kind = l.kind; bound = l.bound; faults = l.faults ++ fault_if true is.Kind at }

-- the expressions of a part, in text order
abbrev pub part_expressions : Part → List Expr
part_expressions (part.Value e) = e ∷ []
part_expressions (part.Both e f) = e ∷ f ∷ []
part_expressions (part.First e) = e ∷ []
part_expressions (part.Next e) = e ∷ []

-- where an expression of a definition, a constraint or an obligation stands
abbrev pub asking : Names → List (List ℕ × Kind) → Context
asking all bound = record { names = all; bound = bound; needs_constant = false }

-- what is given to the left side: each expression, and then whether each fits
abbrev pub given_faults : Names → Left → Part → List Fault
given_faults all l p =
    let js = map (λ e. judged e (asking all l.bound)) (part_expressions p) in
    l.faults ++ (flat_map (λ j. j.faults) js ++ flat_map (λ j. j.fits l.kind) js)

-- the left side of these slots, of a variable of a kind
abbrev pub left_side : List Slot → Kind → Left
left_side slots k = fold with_slot (record { kind = k; bound = []; faults = [] }) slots

-- the definition of a variable of a kind
abbrev pub left_faults : Names → Def → Kind → List Fault
left_faults all d k = given_faults all (left_side d.indices k) d.part

-- what is defined: a variable that is no input
abbrev pub defined_faults : Names → Def → Option Thing → List Fault
defined_faults all d None = fault_if true is.Unknown d.name.at
defined_faults all d (Some (constant b x)) = fault_if true is.Kind d.name.at
defined_faults all d (Some (type_of k)) = fault_if true is.Kind d.name.at
defined_faults all d (Some (code_in root c)) = fault_if true is.Kind d.name.at
defined_faults all d (Some (variable true k)) = fault_if true is.Kind d.name.at
defined_faults all d (Some (variable false k)) = left_faults all d k
defined_faults all d (Some later) = fault_if true is.Kind d.name.at

-- a definition after others
abbrev pub definition_faults : Names → List Def → Def → List Fault
definition_faults all before d = fault_if (is_repeated before d) is.Twice d.name.at ++ defined_faults all d (under d.name.text all)

-- ---- pass 2

-- what pass 2 walks: a definition, or a constraint or obligation
pub data Asked : Type 0 where
  defines : Def → Asked
  demands : Expr → Asked

-- what a section has for pass 2
abbrev pub asked_in : Section → List Asked
asked_in (section.Constants items) = []
asked_in (section.Types items) = []
asked_in (section.Inputs decls) = []
asked_in (section.Declarations decls) = []
asked_in (section.Definitions defs) = map defines defs
asked_in (section.Constraints es) = map demands es
asked_in (section.Obligations es) = map demands es

-- pass 2 so far: the definitions, and the faults
pub record Pass2 : Type 0 where
  pub defs : List Def
  pub faults : List Fault

-- one item further
abbrev pub pass2_item : Names → Pass2 → Asked → Pass2
pass2_item all p (defines d) = record { defs = p.defs ++ (d ∷ []); faults = p.faults ++ definition_faults all p.defs d }
pass2_item all p (demands e) =
    record { defs = p.defs; faults = p.faults ++ ((judged e (asking all [])).faults ++ wants_truth (judged e (asking all []))) }

-- the faults of definitions, constraints and obligations
abbrev pub pass2_faults : HllModel → List Fault
pass2_faults m = (fold (pass2_item (names m)) (record { defs = []; faults = [] }) (flat_map asked_in m.sections)).faults

-- ---- pass 3

-- the names that are declared as variables and are no inputs, with their places
abbrev pub declared_in : Section → List Name
declared_in (section.Constants items) = []
declared_in (section.Types items) = []
declared_in (section.Inputs decls) = []
declared_in (section.Declarations decls) = flat_map (λ decl. map (λ d. d.name) decl.names) decls
declared_in (section.Definitions defs) = []
declared_in (section.Constraints es) = []
declared_in (section.Obligations es) = []

-- a variable has a value, or both a first one and a next one
abbrev pub variable_faults : List Def → Name → List Fault
variable_faults defs n =
    let own = definitions_of defs n.text in
    let has = λ (test : PartKind → Bool). list_any (λ d. test (part_kind d.part)) own in
    fault_if (not (has is_complete || has is_next)) is.Undefined n.at ++
    (if has is_complete || has is_first then [] else flat_map (λ d. fault_if (is_next (part_kind d.part)) is.FirstMissing d.at) own)

-- the faults of variables that are declared and not defined
abbrev pub pass3_faults : HllModel → List Fault
pass3_faults m = flat_map (variable_faults (definitions m)) (flat_map declared_in m.sections)

-- ---- the first fault

-- all faults of a text, in the order in which they are met
abbrev pub faults : HllModel → List Fault
faults m = pass1_faults m ++ (pass2_faults m ++ pass3_faults m)

-- the first of some faults
abbrev pub first_of : List Fault → Option Fault
first_of [] = None
first_of (f ∷ fs) = Some f

-- the first fault of a text
abbrev pub first_fault : HllModel → Option Fault
first_fault m = first_of (faults m)

-- a text without faults
abbrev pub Well : HllModel → Type 0
Well m = faults m ≡ []
