use Rattle.std.proofs.Common.{◌<◌, ◌+◌, ◌-◌}
use Rattle.kinduction.specs.Rounds.{IsReached}
use Rattle.kinduction.proofs.deciding.decide.Given as goal

abbrev pub invariant-loop-bases : goal.invariant-loop-bases
invariant-loop-bases l = record {
  below : l.instant < l.depth;
  reached : IsReached l.l l.p l.budget l.instant (l.instant + 1) l.bases;
}

abbrev pub decreases-loop-bases : goal.decreases-loop-bases
decreases-loop-bases l = l.depth - l.instant
