use Rattle.dependence.proofs.Statics.{static_constant}
use Rattle.dependence.proofs.laws.statics_are_constant.Goals as goal

pub returns : goal.returns
returns c = static_constant
