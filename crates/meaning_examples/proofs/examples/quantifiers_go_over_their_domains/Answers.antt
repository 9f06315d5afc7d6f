use Rattle.meaning_examples.proofs.Worked.{worked}
use Rattle.meaning_examples.proofs.examples.quantifiers_go_over_their_domains.Goals as goal

pub returns : goal.returns
returns c = record {
  numbers = ((λ s. simp worked), (λ s. simp worked), (λ s. simp worked), (λ s. simp worked), (λ s. simp worked), (λ s. simp worked));
  truth_values = ((λ s. simp worked), (λ s. simp worked), (λ s. simp worked));
  hidden = ((λ s. simp worked), (simp worked, simp worked, simp worked));
}
