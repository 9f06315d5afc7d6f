use Rattle.std.proofs.Common.{refl}
use Rattle.meaning_examples.proofs.Worked.{worked}
use Rattle.meaning_examples.proofs.examples.values_fit.Goals as goal

pub returns : goal.returns
returns c = record {
  numbers = (refl, refl, refl, refl);
  elements = (refl, refl);
  groups = λ s. simp worked;
}
