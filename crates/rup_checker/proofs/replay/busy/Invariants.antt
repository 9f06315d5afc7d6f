use Rattle.std.proofs.Common.{◌≡◌, ◌++◌, take}
use Rattle.rup_checker.specs.Logs.{known, AreAccepted}
use Rattle.rup_checker.proofs.replay.busy.Given as goal

abbrev pub invariant-loop-step : goal.invariant-loop-step
invariant-loop-step l = record {
  variables : l.derivation.variables ≡ l.formula.variables;
  known : l.formula.clauses ++ l.derivation.added.clauses ≡ known l.formula (take l.step-index l.steps);
  accepted : AreAccepted l.formula (take l.step-index l.steps);
}
