use Rattle.std.proofs.Common.{All, take}
use Rattle.rup_checker.specs.Marks.{IsMarked}
use Rattle.rup_checker.proofs.containment.is_covered.Given as goal

abbrev pub invariant-loop-literal : goal.invariant-loop-literal
invariant-loop-literal l = All (IsMarked l.marks) (take l.literal-index l.clause)
