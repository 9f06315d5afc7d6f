use Rattle.meaning_examples.proofs.Worked.{worked}
use Rattle.meaning_examples.proofs.examples.parts_are_read.Goals as goal

pub returns : goal.returns
returns c = record {
  outside = (simp worked, simp worked, simp worked, simp worked);
  rows = (simp worked, simp worked, simp worked, simp worked);
  fields = (simp worked, simp worked, simp worked, simp worked);
}
