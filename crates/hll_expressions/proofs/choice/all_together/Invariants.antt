use Rattle.std.proofs.Common.{◌≡◌, Bool, List}
use Rattle.hll_meaning.specs.Judging.{Judged}
use Rattle.hll_expressions.specs.Choices.{AreTested, so_far}
use Rattle.hll_expressions.proofs.BranchLemmas.{tested}
use Rattle.hll_expressions.proofs.choice.all_together.Given as goal

abbrev pub invariant-loop-place : goal.invariant-loop-place
invariant-loop-place l =
    (needs : Bool) (bs : List (Judged × Judged)) (j : Judged) → AreTested needs l.tested bs j → tested bs l.place ≡ so_far l.all
