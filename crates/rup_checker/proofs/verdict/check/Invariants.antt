use Rattle.std.proofs.Common.{◌≡◌, ◌++◌, take}
use Rattle.rup_checker.specs.Logs.{known, AreAccepted}
use Rattle.rup_checker.proofs.verdict.check.Given as goal

abbrev pub invariant-loop-place : goal.invariant-loop-place
invariant-loop-place l =
    (l.derivation.variables ≡ l.formula.variables)
    × (l.formula.clauses ++ l.derivation.added.clauses ≡ known l.formula (take l.place l.steps))
    × AreAccepted l.formula (take l.place l.steps)
