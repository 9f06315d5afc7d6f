use Rattle.std.proofs.Common.{◌≡◌, ℕ, List, length}
use Rattle.lll_core.specs.Signals.{signal_names}
use Rattle.lll_text.specs.declared.draft.Draft.{Draft}
use Rattle.lll_text.proofs.OneReading.{Going}
use Rattle.lll_text.proofs.reading.read_draft.Given as goal

pub record Turn (text : List ℕ) (draft : Draft) (names : List (List ℕ)) (rest : List ℕ) (line : ℕ) : Type 0 where
  pub named : names ≡ signal_names draft.signals
  pub going : Going text draft rest line

abbrev pub invariant-loop-rest : goal.invariant-loop-rest
invariant-loop-rest l = Turn l.text l.draft l.names l.rest l.line

abbrev pub decreases-loop-rest : goal.decreases-loop-rest
decreases-loop-rest l = length l.rest
