use Rattle.std.proofs.Common.{All, take, neg_ℤ}
use Rattle.rup_checker.specs.Marks.{IsMarked}
use Rattle.rup_checker.proofs.containment.is_consistent.Given as goal

abbrev pub invariant-loop-literal : goal.invariant-loop-literal
invariant-loop-literal l = All (λ m. ¬ (IsMarked l.marks (neg_ℤ m))) (take l.literal-index l.clause)
