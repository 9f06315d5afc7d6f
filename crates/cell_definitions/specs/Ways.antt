-- The way in which what is answered defines a cell, and where a cell stands in an element.
use Rattle.std.specs.Prelude.{◌≡◌, ℕ, ℤ, List, map, reverse}
use Rattle.hll_tree.specs.declared.tree.Def.{Def}
use Rattle.hll_tree.specs.declared.tree.HllModel.{HllModel}
use Rattle.hll_meaning.specs.Runs.{Element}
use Rattle.hll_meaning.specs.Types.{kind_of}
use Rattle.dependence.specs.Dependence.{IsDefinedBy}
use Rattle.dependence.specs.Ways.{Way, free, whole, stepwise}
use Rattle.cell_definitions.specs.declared.definitions.Definitions.{Definitions}
use Rattle.cell_definitions.specs.declared.definitions.Definitions.TheVariants as answer
use Rattle.cell_definitions.specs.declared.spot.Numbered.{Numbered}
use Rattle.cell_definitions.specs.declared.spot.Spot.{Spot}

-- the way of a cell that these definitions are
abbrev pub way_of : Definitions → Way
way_of answer.Input = free
way_of (answer.One d) = whole d.now
way_of (answer.Two first next) = stepwise first.now next.now

-- index names with their numbers, the innermost first
abbrev pub numbers_of : List Numbered → List (List ℕ × ℤ)
numbers_of numbers = reverse (map (λ n. (n.name.now, n.number)) numbers)

-- a definition defines a cell at this place of an element of this type, under these numbers of its index names
pub record IsSpot (m : HllModel) (cell : ℕ) (d : Def) (numbers : List Numbered) (spot : Spot) : Type 0 where
  pub element : Element
  pub defined : IsDefinedBy m cell d element spot.place
  pub bound : element.bound ≡ numbers_of numbers
  pub kind : kind_of spot.ty.now ≡ element.kind
