use Rattle.std.proofs.Common.{◌≡◌, true, List, drop}
use Rattle.hll_meaning.specs.Judging.{Judged, chosen_value}
use Rattle.hll_expressions.specs.Choices.{AreTested}
use Rattle.hll_expressions.proofs.choice.chosen.Given as goal

abbrev pub invariant-loop-place : goal.invariant-loop-place
invariant-loop-place l =
    (bs : List (Judged × Judged)) (j : Judged) → AreTested true l.tested bs j → chosen_value bs j ≡ chosen_value (drop l.place bs) j
