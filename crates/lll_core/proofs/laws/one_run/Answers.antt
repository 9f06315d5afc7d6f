use Rattle.lll_core.proofs.TableLemmas.{run_there}
use Rattle.lll_core.proofs.laws.one_run.Goals as goal

pub returns : goal.returns
returns c = λ l inputs count. run_there l.signals l.is_lll.are_signals.lower inputs count
