use Rattle.hll_meaning.proofs.Constants.{is_said}
use Rattle.hll_meaning.proofs.FineNames.{constant_said}
use Rattle.hll_meaning.proofs.Scenes.{scene_has}
use Rattle.hll_meaning.proofs.laws.constants_have_their_values.Goals as goal

pub returns : goal.returns
returns c = record { in_scenes = λ e at s h. is_said e at s (scene_has at s h); where_declared = constant_said }
