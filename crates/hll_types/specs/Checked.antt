-- What a text without static faults gives its readers: its variables, what stands under its names, and the ranges of its expressions.
use Rattle.std.specs.Prelude.{◌≡◌, ◌≢◌, ℕ, ℤ, pos, Bool, true, false, List, [], ◌∷◌, map, Contains, Option, None, Some, MatchOption, if◌then◌else◌}
use Rattle.std.specs.List.{IsDistinct, flat_map, list_any}
use Rattle.std.specs.Str.{bytes_eq}
use Rattle.intervals.specs.declared.interval.Interval.{Interval}
use Rattle.hll_tree.specs.declared.tree.Decl.{Decl}
use Rattle.hll_tree.specs.declared.tree.Def.{Def}
use Rattle.hll_tree.specs.declared.tree.HllModel.{HllModel}
use Rattle.hll_tree.specs.declared.tree.Name.{Name}
use Rattle.hll_tree.specs.declared.tree.Section.{Section}
use Rattle.hll_tree.specs.declared.tree.Section.TheVariants as section
use Rattle.hll_meaning.specs.Kinds.{Kind}
use Rattle.hll_meaning.specs.Names.{Thing, constant, type_of, code_in, variable, later, Names}
use Rattle.hll_meaning.specs.Types.{ends, kind_of}
use Rattle.hll_meaning.specs.Declarations.{names}
use Rattle.hll_meaning.specs.Nodes.{Placed}
use Rattle.hll_meaning.specs.Runs.{definitions, variables}
use Rattle.hll_meaning.specs.StaticRules.{PartKind, value, both, first, next, part_kind, definitions_of}
use Rattle.hll_types.specs.declared.variables.Role.{Role}
use Rattle.hll_types.specs.declared.variables.Role.TheVariants as role
use Rattle.hll_types.specs.declared.variables.Variable.{Variable}

-- ---- variables

-- the names of declarations, in their order
abbrev pub names_declared : List Decl → List Name
names_declared = flat_map (λ decl. map (λ d. d.name) decl.names)

-- the names of the variables that a section declares, inputs among them
abbrev pub variables_in : Section → List Name
variables_in (section.Constants items) = []
variables_in (section.Types items) = []
variables_in (section.Inputs decls) = names_declared decls
variables_in (section.Declarations decls) = names_declared decls
variables_in (section.Definitions defs) = []
variables_in (section.Constraints es) = []
variables_in (section.Obligations es) = []

-- the names of a text's variables where they are declared, in text order
abbrev pub variable_names : HllModel → List Name
variable_names m = flat_map variables_in m.sections

-- whether a part gives a first or a next value
abbrev pub is_memory : PartKind → Bool
is_memory value = false
is_memory both = true
is_memory first = true
is_memory next = true

-- the role of a variable, which is an input or not, by its definitions
abbrev pub role_by : List Def → Bool → Role
role_by own true = role.Input
role_by own false = if list_any (λ d. is_memory (part_kind d.part)) own then role.Memory else role.Value

-- the role of a thing that is a variable
abbrev pub thing_role : List Def → Thing → List Role
thing_role own (constant b x) = []
thing_role own (type_of k) = []
thing_role own (code_in root c) = []
thing_role own (variable input k) = role_by own input ∷ []
thing_role own later = []

-- the variables among names, with their roles under these definitions
abbrev pub roles_among : List Def → Names → List (List ℕ × Role)
roles_among defs = flat_map (λ x. map (λ r. (x.0, r)) (thing_role (definitions_of defs x.0) x.1))

-- these are the variables of a text in text order, with their kinds, places and roles: each name once
pub record AreVariables (m : HllModel) (vs : List Variable) : Type 0 where
  pub kinds : map {B = List ℕ × Kind} (λ v. (v.name, kind_of v.ty)) vs ≡ variables m
  pub places : map {B = List ℕ × ℕ} (λ v. (v.name, v.at)) vs ≡ map (λ n. (n.text, n.at)) (variable_names m)
  pub roles : map {B = List ℕ × Role} (λ v. (v.name, v.role)) vs ≡ roles_among (definitions m) (names m)
  pub distinct : IsDistinct bytes_eq (map (λ v. v.name) vs)

-- ---- what stands under a name

-- the number of a constant, or the code of an element
abbrev pub value_in : Option Thing → Option ℤ
value_in None = None
value_in (Some (constant b x)) = Some x
value_in (Some (type_of k)) = None
value_in (Some (code_in root c)) = Some (pos c)
value_in (Some (variable input k)) = None
value_in (Some later) = None

-- the kind of a type
abbrev pub type_in : Option Thing → Option Kind
type_in None = None
type_in (Some (constant b x)) = None
type_in (Some (type_of k)) = Some k
type_in (Some (code_in root c)) = None
type_in (Some (variable input k)) = None
type_in (Some later) = None

-- a name of the element with this code in a root, or there is none
abbrev pub IsElementOf : Names → List ℕ → ℕ → Option (List ℕ) → Type 0
IsElementOf all root code None = (n : List ℕ) → Contains all (n, code_in root code) → ⊥
IsElementOf all root code (Some n) = Contains all (n, code_in root code)

-- ---- ranges

-- a range that is found at a place is noted there, and none is found only where none is
abbrev pub IsFoundAt : List Placed → ℕ → Option Interval → Type 0
IsFoundAt rs at result = MatchOption result ((p : Placed) → Contains rs p → p.at ≢ at) (λ i. Contains rs (record { at = at; range = ends i }))
