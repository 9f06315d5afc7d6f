use Rattle.evidence.proofs.ClaimLemmas.{step_taken}
use Rattle.evidence.proofs.refutation.take_step.Goals as goal

pub returns : goal.returns
returns c = λ f steps has.
    step_taken f steps c.args.step.now c.args.checker.now c.step.new.self c.literals.result.now c.hints.result.now c.step.result c.literals.ensures c.hints.ensures has c.step.ensures.answer c.step.ensures.variables c.step.ensures.added
