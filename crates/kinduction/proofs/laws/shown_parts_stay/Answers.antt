use Rattle.kinduction.proofs.Staying.{stays}
use Rattle.kinduction.proofs.laws.shown_parts_stay.Goals as goal

pub returns : goal.returns
returns c = record {
  logs = λ m logs shown. stays m logs shown;
  answers = λ m budget logs shown. stays m logs shown.parts;
}
