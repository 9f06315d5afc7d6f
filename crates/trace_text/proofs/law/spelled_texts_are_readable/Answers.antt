use Rattle.trace_text.proofs.ReadableTexts.{readable}
use Rattle.trace_text.proofs.law.spelled_texts_are_readable.Goals as goal

pub returns : goal.returns
returns c = λ m has well. readable m has well
