-- How each cell of a text gets its numbers: as one of an input, or by definitions.
use Rattle.std.specs.Prelude.{◌≡◌, ℕ, ◌+◌, ◌<◌, true, List, [], ◌∷◌, Contains, Some, if◌then◌else◌}
use Rattle.std.specs.List.{AllByRecursion}
use Rattle.hll_tree.specs.declared.tree.Def.{Def}
use Rattle.hll_tree.specs.declared.tree.HllModel.{HllModel}
use Rattle.hll_meaning.specs.Kinds.{cells}
use Rattle.hll_meaning.specs.Names.{variable, under}
use Rattle.hll_meaning.specs.Declarations.{names}
use Rattle.hll_meaning.specs.Runs.{Element, variables}
use Rattle.hll_meaning.specs.StaticRules.{first, next, part_kind, is_complete, is_first, Well}
use Rattle.dependence.specs.Dependence.{cell_count, IsDefinedBy}
use Rattle.dependence.specs.Mentions.{Stretch, stretch_of}

-- a cell is one of an input; or one definition has its value, or both its first value and the next one; or one definition has the
-- first value and another the next one
pub data Way : Type 0 where
  free : Way
  whole : Def → Way
  stepwise : Def → Def → Way

-- a cell of a variable that is an input
pub record IsInputCell (m : HllModel) (cell : ℕ) : Type 0 where
  pub name : List ℕ
  pub stretch : Stretch
  pub is_variable : stretch_of (variables m) name ≡ Some stretch
  pub is_input : under name (names m) ≡ Some (variable true stretch.kind)
  pub rest : ℕ
  pub within : rest < cells stretch.kind
  pub is_cell : cell ≡ stretch.start + rest

-- a definition defines a cell at some place of some element
abbrev pub DefinesCell : HllModel → Def → ℕ → Type 0
DefinesCell m d cell = (e : Element) × (place : ℕ) × IsDefinedBy m cell d e place

-- these definitions define a cell, and no others do
pub record AreItsDefinitions (m : HllModel) (cell : ℕ) (ds : List Def) : Type 0 where
  pub define : AllByRecursion (λ d. DefinesCell m d cell) ds
  pub only : (d : Def) → DefinesCell m d cell → Contains ds d

-- a cell gets its numbers in this way
abbrev pub IsWay : HllModel → ℕ → Way → Type 0
IsWay m cell free = IsInputCell m cell × AreItsDefinitions m cell []
IsWay m cell (whole d) = (is_complete (part_kind d.part) ≡ true) × AreItsDefinitions m cell (d ∷ [])
IsWay m cell (stepwise f n) = (part_kind f.part ≡ first) × (part_kind n.part ≡ next) × AreItsDefinitions m cell (f ∷ n ∷ [])

-- the way that the definitions of a variable give its cells
abbrev pub way_by : List Def → Way
way_by [] = free
way_by (d ∷ []) = whole d
way_by (d ∷ e ∷ ds) = if is_first (part_kind d.part) then stepwise d e else stepwise e d

-- one way and no other
pub record HasOneWay (m : HllModel) (cell : ℕ) : Type 0 where
  pub way : Way
  pub is_way : IsWay m cell way
  pub only : (other : Way) → IsWay m cell other → other ≡ way

-- in a text without faults each cell gets its numbers in exactly one way
abbrev pub EachCellHasOneWay : Type 0
EachCellHasOneWay = (m : HllModel) (cell : ℕ) → Well m → cell < cell_count m → HasOneWay m cell

-- in a text without faults no cell of an input is defined
abbrev pub InputsAreNotDefined : Type 0
InputsAreNotDefined = (m : HllModel) (cell : ℕ) (d : Def) → Well m → IsInputCell m cell → DefinesCell m d cell → ⊥
