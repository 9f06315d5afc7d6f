use Rattle.meaning_examples.proofs.Worked.{worked}
use Rattle.meaning_examples.proofs.examples.pre_looks_back.Goals as goal

pub returns : goal.returns
returns c = record {
  once = ((simp worked, simp worked, simp worked), (simp worked, simp worked, simp worked));
  twice = (simp worked, simp worked, simp worked);
  under_a_bind = (simp worked, simp worked, simp worked);
  first = (simp worked, simp worked, simp worked);
}
