use Rattle.rup_checker.proofs.Soundness.{log_sound}
use Rattle.rup_checker.proofs.law.accepted_log_refutes.Goals as goal

pub returns : goal.returns
returns c = log_sound
