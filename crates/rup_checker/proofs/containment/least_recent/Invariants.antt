use Rattle.std.proofs.Common.{Contains}
use Rattle.rup_checker.proofs.containment.least_recent.Given as goal

abbrev pub invariant-loop-literal : goal.invariant-loop-literal
invariant-loop-literal l = Contains l.clause l.least
