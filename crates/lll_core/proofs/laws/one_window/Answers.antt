use Rattle.lll_core.proofs.TableLemmas.{window_there}
use Rattle.lll_core.proofs.laws.one_window.Goals as goal

pub returns : goal.returns
returns c = λ l first inputs latches count latch. window_there l.signals l.is_lll.are_signals.lower first inputs latches count latch
