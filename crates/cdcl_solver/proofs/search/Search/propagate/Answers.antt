use Rattle.cdcl_solver.proofs.Visiting.{goes_on_trans}
use Rattle.cdcl_solver.proofs.search.Search.propagate.Goals as goal

pub returns-clause-goes_on : goal.returns-clause-goes_on
returns-clause-goes_on c = goes_on_trans c.args.self.now c.start.new.self c.propagate_started-2.new.self c.in_ok-conflict.ensures.goes_on c.propagate_started-2.ensures.goes_on
