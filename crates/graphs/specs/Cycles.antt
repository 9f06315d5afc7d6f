-- The reported cycle, over any relation between nodes.
use Rattle.std.specs.Prelude.{◌≢◌, ◌<◌, ◌≤◌, ℕ, List, [], ◌∷◌, length}
use Rattle.graphs.specs.Graphs.{HasArrow}
use Rattle.graphs.specs.Paths.{Reaches, IsDistance}
use Rattle.graphs.specs.declared.arrangement.Cyclic.{Cyclic}
use Rattle.graphs.specs.declared.arrangement.Cyclic.TheVariants.{Cycle, Memory}

-- the least node below n that reaches itself
pub record IsStart (Arrow : ℕ → ℕ → Type 0) (n start : ℕ) : Type 0 where
  pub node : start < n
  pub cyclic : Reaches Arrow start start
  pub least : (a : ℕ) → Reaches Arrow a a → start ≤ a

-- among the nodes to which a node has an arrow, the least of those with the least distance to the start
pub record IsNext (Arrow : ℕ → ℕ → Type 0) (start from next : ℕ) : Type 0 where
  pub arrow : Arrow from next
  pub distance : ℕ
  pub is_distance : IsDistance Arrow next start distance
  pub nearest : (b d : ℕ) → Arrow from b → IsDistance Arrow b start d → distance ≤ d
  pub first : (b : ℕ) → Arrow from b → IsDistance Arrow b start distance → next ≤ b

-- the nodes after one, each the next of the one before, until the next would be the start
abbrev pub ComesBack : (ℕ → ℕ → Type 0) → ℕ → ℕ → List ℕ → Type 0
ComesBack Arrow start from [] = IsNext Arrow start from start
ComesBack Arrow start from (c ∷ cs) = IsNext Arrow start from c × (c ≢ start) × ComesBack Arrow start c cs

-- the reported cycle: from the least node that reaches itself, on by the next nodes, until it comes back
abbrev pub IsReportedCycle : (ℕ → ℕ → Type 0) → ℕ → List ℕ → Type 0
IsReportedCycle Arrow n [] = ⊥
IsReportedCycle Arrow n (c ∷ cs) = IsStart Arrow n c × ComesBack Arrow c c cs

-- why a graph has no order: a cycle, and no memory says nothing of the graph
abbrev pub IsCause : List (List ℕ) → Cyclic → Type 0
IsCause rows (Cycle cells) = IsReportedCycle (HasArrow rows) (length rows) cells.items
IsCause rows Memory = Unit {0}
