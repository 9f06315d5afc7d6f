use Rattle.lll_text.proofs.Total.{lines_counted}
use Rattle.lll_text.proofs.law.lines_are_counted.Goals as goal

pub returns : goal.returns
returns c = λ lines text rest draft e other. lines_counted lines text (draft, rest) e other
