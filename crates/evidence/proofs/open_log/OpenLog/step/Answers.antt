use Rattle.evidence.proofs.TrackTurns.{halted}
use Rattle.evidence.proofs.open_log.OpenLog.step.Goals as goal

pub returns-in-Refused : goal.returns-in-Refused
returns-in-Refused c = λ budget q at count steps tracks place.
    halted budget q at count steps c.args.step.now c.in-Err.fault c.args.line c.in-Refused.line c.in-Refused.cause place (c.in-Err.ensures budget q at count steps tracks) c.in-Refused.ensures
