use Rattle.meaning_examples.proofs.Worked.{worked}
use Rattle.meaning_examples.proofs.examples.types_are_as_written.Goals as goal

pub returns : goal.returns
returns c = record {
  numbers = (simp worked, simp worked, simp worked);
  lists = (simp worked, simp worked);
  domains = simp worked;
}
