use Rattle.intervals.proofs.Soundness.{divides, divides_by_zero}
use Rattle.intervals.proofs.laws.division_truncates.Goals as goal

pub returns : goal.returns
returns c = record { divided = divides; by_zero = divides_by_zero }
