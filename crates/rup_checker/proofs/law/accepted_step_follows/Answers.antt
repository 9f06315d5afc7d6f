use Rattle.rup_checker.proofs.Soundness.{refutation_sound}
use Rattle.rup_checker.proofs.law.accepted_step_follows.Goals as goal

pub returns : goal.returns
returns c = λ variables clauses clause hints in_range accepted v satisfied. refutation_sound v variables clauses clause hints in_range satisfied accepted.refuted
