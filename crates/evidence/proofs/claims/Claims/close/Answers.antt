use Rattle.std.proofs.Common.{◌∙◌, length, Err, refl, ap, sym, subst}
use Rattle.std.proofs.lemmas.Result.{err_from_is_err_and}
use Rattle.evidence.specs.declared.open_log.OpenLog.{OpenLog}
use Rattle.evidence.specs.Judging.{claim_at}
use Rattle.evidence.specs.Tracking.{Tracks, IsTracked}
use Rattle.evidence.proofs.JudgingTurns.{closes_ok, closes_result}
use Rattle.evidence.proofs.claims.Claims.close.Goals as goal

pub outcome-requires : goal.outcome-requires
outcome-requires c = subst (IsTracked c.args.self.now.log_at) (sym c.replace-open_log.ensures.value) c.requires.tracked

pub returns-in_err-outcome-clause-judged : goal.returns-in_err-outcome-clause-judged
returns-in_err-outcome-clause-judged c = λ h s steps j before begins tracks.
    let p = err_from_is_err_and c.from_residual.result c.from_residual.ensures.1 in
    let self = c.args.self.now in
    let q = claim_at h.a self.miter self.place in
    let there : Tracks self.conflicts q self.log_at (length steps) steps c.replace-open_log.result = subst (λ (o : OpenLog). Tracks self.conflicts q self.log_at (length steps) steps o) (sym c.replace-open_log.ensures.value) tracks in
    closes_result h s self (record { steps = steps }) j before begins _ c.from_residual.result c.in_err-outcome.field-0.0 (p.1 ∙ ap Err p.2) (λ front e. c.in_err-outcome.ensures self.conflicts q steps front there e)

pub returns-clause-judged : goal.returns-clause-judged
returns-clause-judged c = λ h s steps j before begins tracks.
    let self = c.args.self.now in
    let q = claim_at h.a self.miter self.place in
    let there : Tracks self.conflicts q self.log_at (length steps) steps c.replace-open_log.result = subst (λ (o : OpenLog). Tracks self.conflicts q self.log_at (length steps) steps o) (sym c.replace-open_log.ensures.value) tracks in
    closes_ok h s self (record { steps = steps }) j before begins _ (record { depth = refl; conflicts = refl; miter = refl; place = c.after_log-self.ensures; rows = refl; rows_at = refl }) (λ front e. c.in_ok-outcome.ensures self.conflicts q steps front there e)
