-- The facts that the parts of a model keep.
use Rattle.std.specs.Prelude.{ℕ, ◌<◌, ◌^◌, List, length, All}
use Rattle.lll_core.specs.declared.signal.Signal.{Signal}
use Rattle.lll_core.specs.Signals.{NamesSignal}

-- each part names a signal, and there are few
pub record AreParts (signals : List Signal) (parts : List ℕ) : Type 0 where
  pub there : All (NamesSignal signals) parts
  pub few : length parts < 2 ^ 32
