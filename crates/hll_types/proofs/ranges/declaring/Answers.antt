use Rattle.std.proofs.Common.{refl}
use Rattle.hll_types.proofs.NameAnswers.{no_bounds}
use Rattle.hll_types.proofs.ranges.declaring.Goals as goal

pub returns : goal.returns
returns c = rw no_bounds refl
