-- What holds of the expressions that stand in a text without faults.
use Rattle.std.specs.Prelude.{◌≡◌, ℕ, ◌<◌, ℤ, true, List, [], ◌∷◌, ◌++◌, length, Contains}
use Rattle.std.specs.List.{AllByRecursion}
use Rattle.hll_tree.specs.declared.tree.Expr.{Expr}
use Rattle.hll_tree.specs.declared.tree.HllModel.{HllModel}
use Rattle.hll_meaning.specs.Kinds.{is_in, IsOf}
use Rattle.hll_meaning.specs.Values.{History, number, worth}
use Rattle.hll_meaning.specs.Runs.{variables, AreOfKinds, scene}
use Rattle.hll_meaning.specs.Judging.{Context, judged}
use Rattle.hll_meaning.specs.StaticRules.{Well}
use Rattle.hll_meaning.specs.Soundness.{AreBound}
use Rattle.hll_meaning.specs.Nodes.{Node, node_at, nodes, Placed, text_nodes, text_ranges}

-- an expression is the last of those that stand in it
abbrev pub ExpressionsStandLast : Type 0
ExpressionsStandLast = (e : Expr) (c : Context) → (before : List Node) × (nodes e c ≡ before ++ (node_at e c ∷ []))

-- a node has no faults
abbrev pub IsFaultless : Node → Type 0
IsFaultless n = (judged n.expr n.where_).faults ≡ []

-- in a text without faults no expression that stands in it has any
abbrev pub NodesAreFaultless : Type 0
NodesAreFaultless = (m : HllModel) → Well m → AllByRecursion IsFaultless (text_nodes m)

-- the value of a node is one of its kind, at each instant of a history whose variables lie in their kinds, and under numbers of
-- the bound and index names where it stands that lie in theirs
abbrev pub ValueLiesInRange : HllModel → Node → Type 0
ValueLiesInRange m n =
    (h : History) (t : ℕ) (bound : List (List ℕ × ℤ)) → AllByRecursion (AreOfKinds (variables m)) h → t < length h → AreBound bound n.where_.bound →
    IsOf (judged n.expr n.where_).kind (worth n.expr (scene m h t bound))

-- in a text without faults that holds of all expressions that stand in it
abbrev pub ValuesOfNodesLieInTheirRanges : Type 0
ValuesOfNodesLieInTheirRanges = (m : HllModel) → Well m → AllByRecursion (ValueLiesInRange m) (text_nodes m)

-- a place with a range is that of an expression that stands in the text, and whose number always lies in the range
pub record IsRangeOfNode (m : HllModel) (p : Placed) : Type 0 where
  pub node : Node
  pub stands : Contains (text_nodes m) node
  pub at : node.expr.at ≡ p.at
  pub within : (h : History) (t : ℕ) (bound : List (List ℕ × ℤ)) → AllByRecursion (AreOfKinds (variables m)) h → t < length h → AreBound bound node.where_.bound →
      is_in p.range (number (worth node.expr (scene m h t bound))) ≡ true

-- in a text without faults each place with a range is one of those
abbrev pub RangesHoldTheirValues : Type 0
RangesHoldTheirValues = (m : HllModel) → Well m → AllByRecursion (IsRangeOfNode m) (text_ranges m)
