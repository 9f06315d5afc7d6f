use Rattle.hll_meaning.proofs.Ranges.{is_sound}
use Rattle.hll_meaning.proofs.Scenes.{scene_has}
use Rattle.hll_meaning.proofs.laws.values_lie_in_their_ranges.Goals as goal

pub returns : goal.returns
returns c = λ e at s h. is_sound e at s (scene_has at s h)
