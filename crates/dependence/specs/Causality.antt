-- Texts whose cells can be computed one after the other, and their runs.
use Rattle.std.specs.Prelude.{◌≡◌, ◌↔◌, ℕ, List}
use Rattle.std.specs.List.{AllByRecursion, flat_map}
use Rattle.hll_tree.specs.declared.tree.HllModel.{HllModel}
use Rattle.graphs.specs.Orders.{IsOrder}
use Rattle.graphs.specs.Paths.{IsAcyclic}
use Rattle.hll_meaning.specs.Cells.{inputs}
use Rattle.hll_meaning.specs.Kinds.{ranges, AreIn}
use Rattle.hll_meaning.specs.StaticRules.{Well}
use Rattle.hll_meaning.specs.Texts.{HasText}
use Rattle.hll_meaning.specs.Values.{History}
use Rattle.dependence.specs.Dependence.{cell_count, Depends}
use Rattle.dependence.specs.Rows.{Row, IsRunOf}

-- no cell depends on itself, at any distance
abbrev pub Causal : HllModel → Type 0
Causal m = IsAcyclic (Depends m) (cell_count m)

-- all cells of a text, each once and after all that it depends on
abbrev pub IsCellOrder : HllModel → List ℕ → Type 0
IsCellOrder m order = IsOrder (Depends m) (cell_count m) order

-- a spelled text without faults is causal where its cells have an order
abbrev pub CausalTextsHaveOrders : Type 0
CausalTextsHaveOrders = (m : HllModel) → HasText m → Well m → Causal m ↔ ((order : List ℕ) × IsCellOrder m order)

-- numbers of the input cells, each between its ends
abbrev pub IsInputRow : HllModel → Row → Type 0
IsInputRow m row = AreIn (flat_map (λ x. ranges x.1) (inputs m)) row

-- one run and no other has these numbers of the input cells
pub record HasOneRun (m : HllModel) (rows : List Row) : Type 0 where
  pub history : History
  pub is_run : IsRunOf m rows history
  pub only : (other : History) → IsRunOf m rows other → other ≡ history

-- in a causal spelled text without faults every list of input values has exactly one run
abbrev pub InputsHaveOneRun : Type 0
InputsHaveOneRun = (m : HllModel) (rows : List Row) → HasText m → Well m → Causal m → AllByRecursion (IsInputRow m) rows → HasOneRun m rows
