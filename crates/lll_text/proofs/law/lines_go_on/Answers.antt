use Rattle.lll_text.proofs.GoingOn.{goes_on}
use Rattle.lll_text.proofs.law.lines_go_on.Goals as goal

pub returns : goal.returns
returns c = λ lines text rest draft e may. goes_on lines text rest draft e may
