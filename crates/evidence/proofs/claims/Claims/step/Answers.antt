use Rattle.std.proofs.Common.{◌-◌, refl, arith}
use Rattle.evidence.proofs.LogMethods.{step_tracked, step_on, step_closes}
use Rattle.evidence.proofs.claims.Claims.step.Goals as goal

pub close-requires-clause-tracked : goal.close-requires-clause-tracked
close-requires-clause-tracked c = step_tracked c.requires.0 c.args.self.now c.args.number c.args.step.now c.requires.1 c.step.new.self c.in_ok-step.ensures

pub returns-then-self-gt0 : goal.returns-then-self-gt0
returns-then-self-gt0 c = λ a x. step_on a c.args.self.now c.args.number c.args.step.now x c.step.new.self c.in_ok-step.ensures (c.args.self.now.left - 1) refl (omega arith)

pub returns : goal.returns
returns c = λ a x.
    step_closes a c.args.self.now c.args.number c.args.step.now x c.step.new.self c.in_ok-step.ensures c.close.new.self c.close.result (c.args.self.now.left - 1) refl (omega arith) c.close.ensures.judged c.close.ensures.left
