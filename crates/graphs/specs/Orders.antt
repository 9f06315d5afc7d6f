-- Orders of all nodes, over any relation between nodes.
use Rattle.std.specs.Prelude.{◌<◌, ◌≢◌, ℕ, List, length, take, All, AllPairs, Contains, slice_index}

-- each node below n stands in the list once, and whatever it has an arrow to stands before it
pub record IsOrder (Arrow : ℕ → ℕ → Type 0) (n : ℕ) (order : List ℕ) : Type 0 where
  pub nodes : All (λ a. a < n) order
  pub all : (a : ℕ) → a < n → Contains order a
  pub once : AllPairs (λ a b. a ≢ b) order
  pub after : (place b : ℕ) → place < length order → Arrow (slice_index order place) b → Contains (take place order) b
