use Rattle.kinduction.proofs.Induction.{holds}
use Rattle.kinduction.proofs.laws.proofs_hold.Goals as goal

pub returns : goal.returns
returns c = record {
  logs = λ l p k bases step within proof. holds l p k bases step within proof;
  answers = λ l p depth budget k bases step within proved. holds l p k bases step within (record {
    count = proved.reached.count;
    bases_refuted = proved.reached.bases_refuted;
    step_refuted = proved.refuted.accepted;
  });
}
