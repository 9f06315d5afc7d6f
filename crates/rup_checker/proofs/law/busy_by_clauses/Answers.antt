use Rattle.rup_checker.proofs.ReplayLemmas.{busy_clauses}
use Rattle.rup_checker.proofs.law.busy_by_clauses.Goals as goal

pub returns : goal.returns
returns c = busy_clauses
