use Rattle.meaning_examples.proofs.Worked.{worked}
use Rattle.meaning_examples.proofs.examples.divisions_truncate.Goals as goal

pub returns : goal.returns
returns c = record {
  quotients = ((λ s. simp worked), (λ s. simp worked));
  remainders = ((λ s. simp worked), (λ s. simp worked));
  by_zero = ((λ s. simp worked), (λ s. simp worked));
}
