use Rattle.lll_text.proofs.OneReading.{faults-same}
use Rattle.lll_text.proofs.law.one_fault.Goals as goal

pub returns : goal.returns
returns c = λ text n m j k f g. faults-same text n m j k f g
