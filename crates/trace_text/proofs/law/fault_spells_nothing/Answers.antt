use Rattle.trace_text.proofs.OneText.{spelled_has_none}
use Rattle.trace_text.proofs.ReadableTexts.{readable}
use Rattle.trace_text.proofs.law.fault_spells_nothing.Goals as goal

pub returns : goal.returns
returns c = λ m text rows line kind has well f s. spelled_has_none m well (readable m has well) text rows line kind f s
