use Rattle.dependence.proofs.LinkedTexts.{linked_texts}
use Rattle.dependence.proofs.laws.spelled_texts_are_linked.Goals as goal

pub returns : goal.returns
returns c = linked_texts
