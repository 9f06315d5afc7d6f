use Rattle.std.proofs.Common.{◌++◌, ◌∷◌, [], sym, subst}
use Rattle.evidence.specs.declared.open_log.OpenLog.{OpenLog}
use Rattle.evidence.specs.Tracking.{Tracks}
use Rattle.evidence.proofs.TrackTurns.{next_refused}
use Rattle.evidence.proofs.open_log.OpenLog.take.Goals as goal

pub returns-in-Refused : goal.returns-in-Refused
returns-in-Refused c = λ budget q at count steps tracks.
    let step = c.args.step.now in
    subst (λ (o : OpenLog). Tracks budget q at count (steps ++ step ∷ []) o) (sym c.in-Refused.is)
    (next_refused budget q at count steps step c.in-Refused.line c.in-Refused.cause (subst (λ (o : OpenLog). Tracks budget q at count steps o) c.in-Refused.is tracks))
