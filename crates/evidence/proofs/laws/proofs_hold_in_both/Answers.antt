use Rattle.evidence.proofs.Proved.{holds_in_both, holds_in_miter, runs_split}
use Rattle.evidence.proofs.laws.proofs_hold_in_both.Goals as goal

pub returns-clause-both : goal.returns-clause-both
returns-clause-both c = holds_in_both

pub returns-clause-miter : goal.returns-clause-miter
returns-clause-miter c = λ e p k bases step m fits accepted at is.
    holds_in_miter e.a e.b m p (runs_split e.a e.b m accepted.paired is) (holds_in_both e p k bases step fits accepted at)
