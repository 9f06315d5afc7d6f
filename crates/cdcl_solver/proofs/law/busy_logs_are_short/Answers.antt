use Rattle.cdcl_solver.proofs.Bound.{busy_short}
use Rattle.cdcl_solver.proofs.law.busy_logs_are_short.Goals as goal

pub returns : goal.returns
returns c = busy_short
