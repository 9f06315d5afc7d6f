use Rattle.dependence.proofs.OneRun.{one_run}
use Rattle.dependence.proofs.laws.inputs_have_one_run.Goals as goal

pub returns : goal.returns
returns c = one_run
