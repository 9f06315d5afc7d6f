use Rattle.std.proofs.Common.{◌≡◌, take}
use Rattle.rup_checker.specs.Marks.{Marks}
use Rattle.rup_checker.proofs.hints.take_false.Given as goal

abbrev pub invariant-loop-literal : goal.invariant-loop-literal
invariant-loop-literal l = (l.taken.variables ≡ l.initial.taken.variables) × Marks l.taken (take l.literal-index l.clause)
