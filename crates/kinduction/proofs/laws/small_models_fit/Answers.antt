use Rattle.kinduction.proofs.Counts.{rounds_fit, parts_fit}
use Rattle.kinduction.proofs.laws.small_models_fit.Goals as goal

pub returns : goal.returns
returns c = record {
  rounds = λ l p depth small. rounds_fit l p depth small;
  parts = λ m few. parts_fit m few;
}
