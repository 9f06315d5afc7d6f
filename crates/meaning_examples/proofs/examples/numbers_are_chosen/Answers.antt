use Rattle.meaning_examples.proofs.Worked.{worked}
use Rattle.meaning_examples.proofs.examples.numbers_are_chosen.Goals as goal

pub returns : goal.returns
returns c = record {
  ends = ((λ s. simp worked), (λ s. simp worked));
  sizes = ((λ s. simp worked), (λ s. simp worked));
  branches = ((λ s. simp worked), (λ s. simp worked));
}
