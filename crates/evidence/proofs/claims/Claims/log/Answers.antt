use Rattle.std.proofs.Common.{[], subst, arith}
use Rattle.evidence.specs.declared.claimed_logs.Claim.{Claim}
use Rattle.evidence.specs.Tracking.{Tracks}
use Rattle.evidence.proofs.LogMethods.{log_close, log_opens, log_closes}
use Rattle.evidence.proofs.claims.Claims.log.Goals as goal

pub claim-requires : goal.claim-requires
claim-requires c = (log_close c.args.a.now c.args.self.now c.args.number c.args.count c.requires).can

pub returns-then-count-gt0 : goal.returns-then-count-gt0
returns-then-count-gt0 c = λ x.
    let open_log = c.in_ok-self.field-0 in
    log_opens c.args.a.now c.args.self.now c.args.number c.args.count x open_log (subst (λ (q : Claim). Tracks c.args.self.now.conflicts q c.args.number c.args.count [] open_log) c.in_ok-claim.ensures c.in_ok-self.ensures) (omega arith)

pub returns : goal.returns
returns c = λ x.
    let open_log = c.in_ok-self.field-0 in
    log_closes c.args.a.now c.args.self.now c.args.number c.args.count x open_log c.close.new.self c.close.result
    (subst (λ (q : Claim). Tracks c.args.self.now.conflicts q c.args.number c.args.count [] open_log) c.in_ok-claim.ensures c.in_ok-self.ensures) (omega arith) c.close.ensures.judged c.close.ensures.left
