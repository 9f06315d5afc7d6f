use Rattle.std.proofs.Common.{take}
use Rattle.std.specs.Prelude.{All}
use Rattle.rup_checker.specs.Formulas.{IsLiteral}
use Rattle.rup_checker.proofs.hints.first_outside.Given as goal

abbrev pub invariant-loop-literal : goal.invariant-loop-literal
invariant-loop-literal l = All (IsLiteral l.variables) (take l.literal-index l.clause)
