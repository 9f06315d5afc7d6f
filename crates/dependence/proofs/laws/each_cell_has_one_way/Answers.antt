use Rattle.dependence.proofs.CellWays.{one_way, inputs_free}
use Rattle.dependence.proofs.laws.each_cell_has_one_way.Goals as goal

pub returns-clause-ways : goal.returns-clause-ways
returns-clause-ways c = one_way

pub returns-clause-inputs : goal.returns-clause-inputs
returns-clause-inputs c = inputs_free
