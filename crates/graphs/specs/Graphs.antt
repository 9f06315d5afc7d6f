-- Finite directed graphs, by the targets of each node's arrows.
use Rattle.std.specs.Prelude.{◌<◌, ℕ, List, [], length, All, Contains, slice_index_or}

-- what a graph holds: the targets of each node's arrows, in rows, and the targets of the node that is being built
pub record Arrows : Type 0 where
  pub rows : List (List ℕ)
  pub begun : List ℕ

-- the targets of a node's arrows
abbrev pub row : List (List ℕ) → ℕ → List ℕ
row rows a = slice_index_or rows a []

-- a node has an arrow to another
abbrev pub HasArrow : List (List ℕ) → ℕ → ℕ → Type 0
HasArrow rows a b = Contains (row rows a) b

-- each arrow leads to a node
abbrev pub LeadsToNodes : List (List ℕ) → Type 0
LeadsToNodes rows = All (All (λ b. b < length rows)) rows
