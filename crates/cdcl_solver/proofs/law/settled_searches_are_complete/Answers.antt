use Rattle.cdcl_solver.proofs.Settling.{settled_quiet}
use Rattle.cdcl_solver.proofs.law.settled_searches_are_complete.Goals as goal

pub returns : goal.returns
returns c = settled_quiet
