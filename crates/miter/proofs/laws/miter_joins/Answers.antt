use Rattle.miter.proofs.Combining.{runs_join, windows_join}
use Rattle.miter.proofs.laws.miter_joins.Goals as goal

pub returns-clause-run : goal.returns-clause-run
returns-clause-run c = λ a b m paired is. runs_join a b m is.0 is.1 is.2 is.3 is.4 paired

pub returns-clause-window : goal.returns-clause-window
returns-clause-window c = λ a b m paired is. windows_join a b m is.0 is.1 is.2 is.3 is.4 paired
