use Rattle.std.proofs.Common.{Err, sym, subst}
use Rattle.evidence.specs.declared.claim.ClaimFault.{ClaimFault}
use Rattle.evidence.specs.declared.claims_judged.Judged.{Judged}
use Rattle.evidence.specs.declared.claims_judged.Judged.TheVariants as judged
use Rattle.evidence.specs.Judging.{TakesLineOf}
use Rattle.evidence.specs.Outcomes.{JudgesLine}
use Rattle.evidence.proofs.OutcomeTurns.{taken_on, taken_refused, refused_on}
use Rattle.evidence.proofs.claims_judged.Judged.take.Goals as goal

pub returns-in-Ok : goal.returns-in-Ok
returns-in-Ok c =
    subst (λ (j : Judged). JudgesLine c.args.a.now j c.args.number c.args.statement (judged.Holding c.take.new.self)) (sym c.in-Holding.is)
    (taken_on c.args.a.now c.in-Holding.claims c.take.new.self c.args.number c.args.statement c.in-Ok.ensures)

pub returns-in-Err-Refused : goal.returns-in-Err-Refused
returns-in-Err-Refused c =
    let claims = c.in-Holding.claims in
    subst (λ (j : Judged). JudgesLine c.args.a.now j c.args.number c.args.statement c.refuse.new.self) (sym c.in-Holding.is)
    (subst (λ (now : Judged). JudgesLine c.args.a.now (judged.Holding claims) c.args.number c.args.statement now) (sym c.refuse.ensures)
    (taken_refused c.args.a.now claims c.take.new.self c.args.number c.args.statement c.in-Err-Refused.line c.in-Err-Refused.cause
    (subst (λ (fault : ClaimFault). TakesLineOf c.args.a.now claims c.args.number c.args.statement c.take.new.self (Err fault)) c.in-Err-Refused.field-0-is c.in-Err-Refused.ensures)))

pub returns-in-Refused : goal.returns-in-Refused
returns-in-Refused c =
    subst (λ (j : Judged). JudgesLine c.args.a.now j c.args.number c.args.statement j) (sym c.in-Refused.is)
    (refused_on c.args.a.now c.args.number c.args.statement c.in-Refused.line c.in-Refused.cause)
