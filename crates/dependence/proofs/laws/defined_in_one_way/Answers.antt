use Rattle.dependence.proofs.DefinedCells.{defined_once}
use Rattle.dependence.proofs.laws.defined_in_one_way.Goals as goal

pub returns : goal.returns
returns c = defined_once
