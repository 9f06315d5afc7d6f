use Rattle.lll_text.specs.declared.fault.LllFault.TheVariants as fault
use Rattle.lll_text.proofs.Local.{fault_local}
use Rattle.lll_text.proofs.law.fault_hangs_on_its_lines.Goals as goal

pub returns : goal.returns
returns c = λ front rest other lines line kind enough wrong. fault_local front rest other lines (fault.Fault line kind) enough wrong
