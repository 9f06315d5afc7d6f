use Rattle.dependence.proofs.GivenNumbers.{cells_make_runs}
use Rattle.dependence.proofs.laws.setting_makes_runs.Goals as goal

pub returns : goal.returns
returns c = cells_make_runs
