use Rattle.meaning_examples.proofs.Worked.{worked}
use Rattle.meaning_examples.proofs.examples.chains_group.Goals as goal

pub returns : goal.returns
returns c = record {
  implications = λ s. simp worked;
  others = ((λ s. simp worked), (λ s. simp worked), (λ s. simp worked));
}
