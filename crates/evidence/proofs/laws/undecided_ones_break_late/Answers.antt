use Rattle.evidence.proofs.Proved.{depth_breaks_late, base_breaks_late, step_breaks_late}
use Rattle.evidence.proofs.laws.undecided_ones_break_late.Goals as goal

pub returns-clause-depth : goal.returns-clause-depth
returns-clause-depth c = depth_breaks_late

pub returns-clause-base : goal.returns-clause-base
returns-clause-base c = base_breaks_late

pub returns-clause-step : goal.returns-clause-step
returns-clause-step c = step_breaks_late
