use Rattle.std.proofs.Common.{take}
use Rattle.rup_checker.specs.Marks.{IsMarked}
use Rattle.rup_checker.proofs.Statuses.{IsLeft}
use Rattle.rup_checker.proofs.status.status_of.Given as goal

abbrev pub invariant-loop-literal : goal.invariant-loop-literal
invariant-loop-literal l = IsLeft (IsMarked l.taken) (take l.literal-index l.clause) l.left
