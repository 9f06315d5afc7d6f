use Rattle.std.proofs.Common.{◌≤ℤ◌, subst, sym}
use Rattle.intervals.specs.Ends.{Ends}
use Rattle.intervals.specs.Answers.{ends}
use Rattle.intervals.proofs.DivisionLemmas.{ratio_order}
use Rattle.intervals.proofs.interval.Interval.div.Goals as goal

pub interval-requires : goal.interval-requires
interval-requires c =
    subst (λ (e : Ends). e.lo ≤ℤ e.hi) (sym c.of_quotients.ensures) (ratio_order (ends c.args.self.now) (ends c.args.other.now) c.args.other.now.ordered)
