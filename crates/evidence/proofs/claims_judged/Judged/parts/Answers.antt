use Rattle.std.proofs.Common.{Err, subst}
use Rattle.evidence.specs.declared.claim.ClaimFault.{ClaimFault}
use Rattle.evidence.specs.Judging.{BeginsClaims}
use Rattle.evidence.specs.Outcomes.{IsPairing}
use Rattle.evidence.proofs.claims_judged.Judged.parts.Goals as goal

pub returns-in-Ok : goal.returns-in-Ok
returns-in-Ok c = λ h depth conflicts few begins pairing.
    let p = subst (IsPairing h) c.in-Paired.is pairing in
    c.in-Ok.ensures h depth conflicts few.parts few.obligations p.0 p.1 begins

pub returns-in-Err-Refused : goal.returns-in-Err-Refused
returns-in-Err-Refused c = λ h depth conflicts few begins pairing.
    let p = subst (IsPairing h) c.in-Paired.is pairing in
    let told = subst (λ (fault : ClaimFault). BeginsClaims c.in-Paired.miter c.args.depth c.args.conflicts c.args.said c.args.number (Err fault)) c.in-Err-Refused.field-0-is c.in-Err-Refused.ensures in
    told h depth conflicts few.parts few.obligations p.0 p.1 begins
