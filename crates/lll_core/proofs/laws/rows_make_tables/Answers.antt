use Rattle.lll_core.proofs.TableLemmas.{run_starts, run_goes_on, window_goes_on}
use Rattle.lll_core.proofs.laws.rows_make_tables.Goals as goal

pub returns-clause-starts : goal.returns-clause-starts
returns-clause-starts c = λ l. run_starts l.signals

pub returns-clause-run : goal.returns-clause-run
returns-clause-run c = λ l. run_goes_on l.signals

pub returns-clause-window : goal.returns-clause-window
returns-clause-window c = λ l. window_goes_on l.signals
