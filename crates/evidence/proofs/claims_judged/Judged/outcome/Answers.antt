use Rattle.std.proofs.Common.{[], subst}
use Rattle.evidence.specs.Outcomes.{IsSoFar}
use Rattle.evidence.proofs.OutcomeTurns.{accepted_outcome}
use Rattle.evidence.proofs.claims_judged.Judged.outcome.Goals as goal

pub returns-in-Holding-clause-judged : goal.returns-in-Holding-clause-judged
returns-in-Holding-clause-judged c = λ h s due so_far all e has begun. accepted_outcome h s due _ (subst (IsSoFar h s 0 []) c.in-Holding.is so_far) all e has begun
