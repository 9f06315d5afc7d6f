use Rattle.trace_text.proofs.OneText.{only_fault}
use Rattle.trace_text.proofs.ReadableTexts.{readable}
use Rattle.trace_text.proofs.law.one_fault.Goals as goal

pub returns : goal.returns
returns c = λ m text line other kind other_kind has well f g. only_fault m well (readable m has well) text line other kind other_kind f g
