-- Paths of arrows, over any relation between nodes, and distances.
use Rattle.std.specs.Prelude.{◌≡◌, ◌<◌, ◌≤◌, ℕ, zero, suc}

-- there is a path of so many arrows from a node to another
abbrev pub Path : (ℕ → ℕ → Type 0) → ℕ → ℕ → ℕ → Type 0
Path Arrow zero a b = a ≡ b
Path Arrow (suc k) a b = (m : ℕ) × Arrow a m × Path Arrow k m b

-- a node reaches another by one arrow or more
abbrev pub Reaches : (ℕ → ℕ → Type 0) → ℕ → ℕ → Type 0
Reaches Arrow a b = (k : ℕ) × Path Arrow (suc k) a b

-- the least number of arrows of a path from a node to another
pub record IsDistance (Arrow : ℕ → ℕ → Type 0) (a b distance : ℕ) : Type 0 where
  pub path : Path Arrow distance a b
  pub least : (k : ℕ) → Path Arrow k a b → distance ≤ k

-- no node below n reaches itself
abbrev pub IsAcyclic : (ℕ → ℕ → Type 0) → ℕ → Type 0
IsAcyclic Arrow n = (a : ℕ) → a < n → ¬ (Reaches Arrow a a)

-- each arrow of a node below n leads to a node below n
abbrev pub StaysBelow : (ℕ → ℕ → Type 0) → ℕ → Type 0
StaysBelow Arrow n = (a b : ℕ) → a < n → Arrow a b → b < n
