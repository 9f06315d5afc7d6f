use Rattle.std.proofs.Common.{◌≡◌, ◌⊎◌, List, [], sym, subst}
use Rattle.std.specs.Prelude.{ℤ, ◌↔◌, IsTrue}
use Rattle.std.proofs.lemmas.Result.{err_from_is_err_and}
use Rattle.rup_checker.specs.declared.fault.StepFault.{StepFault}
use Rattle.rup_checker.specs.declared.fault.StepFault.TheVariants as fault
use Rattle.rup_checker.specs.Steps.{IsRefused}
use Rattle.rup_checker.specs.Logs.{known}
use Rattle.evidence.proofs.ClaimLemmas.{is_nothing, step_ended}
use Rattle.evidence.proofs.refutation.Refutation.step.Goals as goal

pub returns-in_err-take_step : goal.returns-in_err-take_step
returns-in_err-take_step c = λ f steps has.
    let p = err_from_is_err_and c.from_residual.result c.from_residual.ensures.1 in
    rw p.1 (subst (λ (stop : StepFault). IsRefused f.variables (known f steps) c.args.step.now.clause c.args.step.now.hints stop ⊎ (stop ≡ fault.Memory)) (sym p.2) (c.in_err-take_step.ensures f steps has.taken))

pub returns : goal.returns
returns c = λ f steps has. record {
  taken = c.in_ok-take_step.ensures f steps has.taken;
  ended = step_ended steps c.args.step.now c.is_empty-self.result
      (subst (λ (l : List ℤ). IsTrue c.is_empty-self.result ↔ (l ≡ [])) c.literals.ensures (is_nothing c.literals.result.now c.is_empty-self.result c.is_empty-self.ensures));
}
