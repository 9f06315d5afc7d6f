use Rattle.std.proofs.Common.{refl}
use Rattle.meaning_examples.proofs.Worked.{worked}
use Rattle.meaning_examples.proofs.examples.elements_have_their_codes.Goals as goal

pub returns : goal.returns
returns c = record {
  shunt_first = (refl, refl, refl, refl, refl, refl, refl);
  main_first = (refl, refl, refl, refl, refl, refl, refl);
  deep = (refl, refl, refl, refl);
  enumerations = (refl, refl, refl);
  over = simp worked;
  domains = refl;
}
