-- What a builder keeps, and the facts of a list of signals to which more may come.
use Rattle.std.specs.Prelude.{◌≡◌, ℕ, ◌+◌, ◌<◌, ◌^◌, ◌==◌, List, [], ◌∷◌, length, All, Contains, Some, slice_get}
use Rattle.std.specs.List.{IsDistinct}
use Rattle.std.specs.Str.{bytes_eq}
use Rattle.lll_core.specs.declared.signal.Signal.{Signal}
use Rattle.lll_core.specs.declared.signal.Signal.TheVariants.{One, Input, Latch, Imp, Eqv}
use Rattle.lll_core.specs.declared.draft.Draft.{Draft}
use Rattle.lll_core.specs.declared.node.Node.{Node}
use Rattle.lll_core.specs.declared.node.Node.TheVariants as node
use Rattle.lll_core.specs.Signals.{signal_of, is_one, operands, own_names, signal_names, NamesSignal, IsName, AreSignals}
use Rattle.lll_core.specs.Drafts.{signals_in, AreReduced}

-- the facts of signals to which more may come, the nexts of latches aside
pub record AreSoFar (signals : List Signal) : Type 0 where
  pub few : length signals < 2 ^ 31
  pub one : (n : ℕ) (s : Signal) → slice_get signals n ≡ Some s → is_one s ≡ (n == 0)
  pub lower : (n : ℕ) (s : Signal) → slice_get signals n ≡ Some s → All (λ a. signal_of a < n) (operands s)
  pub named : All IsName (signal_names signals)
  pub distinct : IsDistinct bytes_eq (signal_names signals)

-- the signal may come after the others
pub record MayFollow (signals : List Signal) (s : Signal) : Type 0 where
  pub room : length signals + 1 < 2 ^ 31
  pub one : is_one s ≡ (length signals == 0)
  pub lower : All (NamesSignal signals) (operands s)
  pub named : All IsName (own_names s)
  pub new : All (λ name. Contains (signal_names signals) name → ⊥) (own_names s)

-- the node of the signal with this number
abbrev pub node_at : ℕ → Signal → Node
node_at n One = node.Alone n
node_at n (Input name) = node.Alone n
node_at n (Latch name init next) = node.Alone n
node_at n (Imp a b) = node.Imp a b
node_at n (Eqv a b) = node.Eqv a b

-- the nodes of signals that are numbered from n on
abbrev pub nodes_from : ℕ → List Signal → List Node
nodes_from n [] = []
nodes_from n (s ∷ signals) = node_at n s ∷ nodes_from (n + 1) signals

-- what a builder keeps: a signal's number is its node's place
pub record IsBuilding (nodes : List Node) (drafts : List Draft) : Type 0 where
  pub nodes_right : nodes ≡ nodes_from 0 (signals_in drafts)
  pub signals_right : AreSignals (signals_in drafts)
  pub reduced : AreReduced (signals_in drafts)
