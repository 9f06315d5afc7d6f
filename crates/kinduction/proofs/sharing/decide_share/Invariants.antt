use Rattle.std.proofs.Common.{◌-◌}
use Rattle.kinduction.specs.Shares.{DecidesFrom}
use Rattle.kinduction.proofs.sharing.decide_share.Given as goal

abbrev pub invariant-loop-p : goal.invariant-loop-p
invariant-loop-p l = DecidesFrom l.l l.depth l.budget l.first (l.p - l.first) l.answers
