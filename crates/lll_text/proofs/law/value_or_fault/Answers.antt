use Rattle.lll_text.proofs.Total.{value-or_fault}
use Rattle.lll_text.proofs.law.value_or_fault.Goals as goal

pub returns : goal.returns
returns c = value-or_fault
