use Rattle.trace_text.proofs.OneText.{only_trace}
use Rattle.trace_text.proofs.ReadableTexts.{readable}
use Rattle.trace_text.proofs.law.one_trace.Goals as goal

pub returns : goal.returns
returns c = λ m text rows others has well h g. only_trace m well (readable m has well) text rows others h g
