-- Words for the contracts of private parts: the tables that are kept of a text without faults.
use Rattle.std.specs.Prelude.{◌≡◌, ℕ, ◌<◌, ◌≤◌, nat_eq, Bool, false, ◌&&◌, List, ◌++◌, map, fold, length, take, position, Option, None, Some, option_and_then, MatchOption, if◌then◌else◌}
use Rattle.std.specs.List.{IsDistinct}
use Rattle.std.specs.Map.{lookup}
use Rattle.std.specs.Str.{bytes_eq}
use Rattle.hll_tree.specs.declared.tree.Def.{Def}
use Rattle.hll_tree.specs.declared.tree.HllModel.{HllModel}
use Rattle.hll_meaning.specs.Kinds.{Kind}
use Rattle.hll_meaning.specs.Names.{Thing, constant, type_of, code_in, variable, later, Names}
use Rattle.hll_meaning.specs.Types.{kind_of}
use Rattle.hll_meaning.specs.Declarations.{names}
use Rattle.hll_meaning.specs.Nodes.{text_ranges}
use Rattle.hll_meaning.specs.Runs.{variable_kind, variables_among, variables}
use Rattle.hll_meaning.specs.StaticRules.{definitions_of, Well}
use Rattle.hll_meaning.specs.Texts.{HasText}
use Rattle.hll_expressions.specs.Things.{names_of}
use Rattle.hll_types.specs.declared.define.Defined.{Defined}
use Rattle.hll_types.specs.declared.elements.Elements.{Elements}
use Rattle.hll_types.specs.declared.tables.Tables.{Tables}
use Rattle.hll_types.specs.declared.variables.Role.{Role}
use Rattle.hll_types.specs.declared.variables.Variable.{Variable}
use Rattle.hll_types.specs.Checked.{thing_role, roles_among, AreVariables, IsElementOf}
use Rattle.hll_types.specs.Defining.{Keeps}
use Rattle.hll_types.specs.RangeTables.{Tabulates}

-- ---- variables

-- these are the variables among names, at these places, with their roles under any definitions whose parts are kept
pub record AreAmong (all : Names) (places : List ℕ) (defined : Defined) (vs : List Variable) : Type 0 where
  pub kinds : map {B = List ℕ × Kind} (λ v. (v.name, kind_of v.ty)) vs ≡ variables_among all
  pub placed : map (λ v. v.at) vs ≡ places
  pub roles : (defs : List Def) → Keeps defined defs → map {B = List ℕ × Role} (λ v. (v.name, v.role)) vs ≡ roles_among defs all
  pub distinct : IsDistinct bytes_eq (map (λ v. v.name) vs)

-- a name is taken in with what it stands for: it goes last where it is that of a variable
pub record IsTaken (places : List ℕ) (defined : Defined) (old new : List Variable) (name : List ℕ) (thing : Thing) : Type 0 where
  pub kinds : map {B = List ℕ × Kind} (λ v. (v.name, kind_of v.ty)) new ≡ map {B = List ℕ × Kind} (λ v. (v.name, kind_of v.ty)) old ++ map (λ k. (name, k)) (variable_kind thing)
  pub placed : map (λ v. v.at) old ≡ take (length old) places → map (λ v. v.at) new ≡ take (length new) places
  pub roles : (defs : List Def) → Keeps defined defs → map {B = List ℕ × Role} (λ v. (v.name, v.role)) new ≡ map {B = List ℕ × Role} (λ v. (v.name, v.role)) old ++ map (λ r. (name, r)) (thing_role (definitions_of defs name) thing)

-- ---- elements

-- whether a thing is the element of this root and code
abbrev pub is_coded : List ℕ → ℕ → Thing → Bool
is_coded root code (constant b x) = false
is_coded root code (type_of k) = false
is_coded root code (code_in r c) = bytes_eq r root && nat_eq c code
is_coded root code (variable input k) = false
is_coded root code later = false

-- the name of the element that is found so far, with one name more
abbrev pub with_coded : List ℕ → ℕ → Option (List ℕ) → List ℕ × Thing → Option (List ℕ)
with_coded root code found x = if is_coded root code x.1 then Some x.0 else found

-- the last name of the element of this root and code
abbrev pub coded_among : List ℕ → ℕ → Names → Option (List ℕ)
coded_among root code all = fold (with_coded root code) None all

-- the name that is kept under the number of a root and a code
abbrev pub numbered : Elements → ℕ → ℕ → Option (List ℕ)
numbered e number code = lookup (λ k. nat_eq number k.0 && nat_eq code k.1) e.by_code.entries

-- the number of a root
abbrev pub place_in : Elements → List ℕ → Option ℕ
place_in e root = position (λ k. bytes_eq root k.items) e.roots.keys

-- the name that is kept of the element of this root and code
abbrev pub element_in : Elements → List ℕ → ℕ → Option (List ℕ)
element_in e root code = option_and_then (λ number. numbered e number code) (place_in e root)

-- nothing is kept under a number that no root has
abbrev pub AreNumbered : Elements → Type 0
AreNumbered e = (number code : ℕ) → length e.roots.keys ≤ number → numbered e number code ≡ None

-- a root has this number, which is its own or the next one; others keep theirs
pub record HasNumber (old new : Elements) (root : List ℕ) (number : ℕ) : Type 0 where
  pub own : MatchOption (place_in old root) (length old.roots.keys ≤ number) (λ before. before ≡ number)
  pub places : (r : List ℕ) → place_in new r ≡ (if bytes_eq root r then Some number else place_in old r)
  pub within : number < length new.roots.keys
  pub no_fewer : length old.roots.keys ≤ length new.roots.keys
  pub others : (r : List ℕ) (i : ℕ) → bytes_eq root r ≡ false → place_in old r ≡ Some i → nat_eq number i ≡ false
  pub names : new.by_code ≡ old.by_code

-- a name is taken in with what it stands for: it is found where it is that of an element
pub record IsFound (old new : Elements) (name : List ℕ) (thing : Thing) : Type 0 where
  pub numbered : AreNumbered new
  pub found : (root : List ℕ) (code : ℕ) → element_in new root code ≡ with_coded root code (element_in old root code) (name, thing)

-- ---- all tables

-- the tables of a text without faults, each as the text has it
pub record AreTables (m : HllModel) (t : Tables) : Type 0 where
  pub things : names_of t.names ≡ names m
  pub listed : AreVariables m t.variables.items
  pub positions : map (λ k. k.items) t.positions.keys ≡ map (λ x. x.0) (variables m)
  pub elements : (root : List ℕ) (code : ℕ) → IsElementOf (names m) root code (element_in t.elements root code)
  pub ranges : Tabulates t.ranges (text_ranges m)

-- a text without faults with its tables
pub record IsChecked (m : HllModel) (t : Tables) : Type 0 where
  pub well : Well m
  pub tables : AreTables m t

-- a text without faults that is spelled, with its tables
pub record IsKept (m : HllModel) (t : Tables) : Type 0 where
  pub spelled : HasText m
  pub checked : IsChecked m t
