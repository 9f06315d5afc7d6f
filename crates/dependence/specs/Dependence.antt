-- Which cells of a text depend on which.
use Rattle.std.specs.Prelude.{◌≡◌, ℕ, ◌+◌, ◌<◌, List, [], Contains, Some, length}
use Rattle.hll_tree.specs.declared.tree.Def.{Def}
use Rattle.hll_tree.specs.declared.tree.HllModel.{HllModel}
use Rattle.hll_tree.specs.declared.tree.Part.{Part}
use Rattle.hll_tree.specs.declared.tree.Part.TheVariants as part
use Rattle.hll_meaning.specs.Kinds.{Kind, cells}
use Rattle.hll_meaning.specs.Cells.{text_cells}
use Rattle.hll_meaning.specs.Runs.{Element, definitions, picked, scene, variables}
use Rattle.hll_meaning.specs.Values.{In}
use Rattle.dependence.specs.Mentions.{Stretch, mentioning, stretch_of}

-- how many cells a text's variables have
abbrev pub cell_count : HllModel → ℕ
cell_count m = length (text_cells m)

-- a definition defines a cell: it is this place of an element that the definition picks in its variable
pub record IsDefinedBy (m : HllModel) (cell : ℕ) (d : Def) (e : Element) (place : ℕ) : Type 0 where
  pub stands : Contains (definitions m) d
  pub variable : Stretch
  pub is_variable : stretch_of (variables m) d.name.text ≡ Some variable
  pub picks : Contains (picked d.indices variable.kind) e
  pub within : place < cells e.kind
  pub is_cell : cell ≡ variable.start + e.start + place

-- The cells that a part of a definition mentions at the instant itself, for a place in an element of a kind. A first value counts;
-- a next one doesn't, as it is looked at an instant earlier.
abbrev pub part_cells : Part → Kind → ℕ → In (List ℕ)
part_cells (part.Value e) k place s = (mentioning e).cells k place s
part_cells (part.Both first next) k place s = (mentioning first).cells k place s
part_cells (part.First first) k place s = (mentioning first).cells k place s
part_cells (part.Next next) k place s = []

-- a cell depends on each that a definition of it mentions for it, under the index numbers of its element
pub record Depends (m : HllModel) (cell other : ℕ) : Type 0 where
  pub definition : Def
  pub element : Element
  pub place : ℕ
  pub defined : IsDefinedBy m cell definition element place
  pub mentions : Contains (part_cells definition.part element.kind place (scene m [] 0 element.bound)) other
