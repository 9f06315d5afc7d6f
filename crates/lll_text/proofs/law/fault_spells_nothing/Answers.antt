use Rattle.lll_text.proofs.OneReading.{fault-spells_nothing}
use Rattle.lll_text.proofs.law.fault_spells_nothing.Goals as goal

pub returns : goal.returns
returns c = fault-spells_nothing
