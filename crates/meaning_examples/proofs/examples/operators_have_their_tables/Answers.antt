use Rattle.meaning_examples.proofs.Worked.{worked}
use Rattle.meaning_examples.proofs.examples.operators_have_their_tables.Goals as goal

pub returns : goal.returns
returns c = record {
  both = ((λ s. simp worked), (λ s. simp worked), (λ s. simp worked), (λ s. simp worked));
  either = ((λ s. simp worked), (λ s. simp worked), (λ s. simp worked), (λ s. simp worked));
  implies = ((λ s. simp worked), (λ s. simp worked), (λ s. simp worked), (λ s. simp worked));
  same = ((λ s. simp worked), (λ s. simp worked), (λ s. simp worked), (λ s. simp worked));
  differ = ((λ s. simp worked), (λ s. simp worked), (λ s. simp worked), (λ s. simp worked));
  eq = ((λ s. simp worked), (λ s. simp worked), (λ s. simp worked));
  ne = ((λ s. simp worked), (λ s. simp worked), (λ s. simp worked));
  lt = ((λ s. simp worked), (λ s. simp worked), (λ s. simp worked));
  le = ((λ s. simp worked), (λ s. simp worked), (λ s. simp worked));
  gt = ((λ s. simp worked), (λ s. simp worked), (λ s. simp worked));
  ge = ((λ s. simp worked), (λ s. simp worked), (λ s. simp worked));
}
