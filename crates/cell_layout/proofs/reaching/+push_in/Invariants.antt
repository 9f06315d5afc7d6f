use Rattle.std.proofs.Common.{length}
use Rattle.cell_layout.proofs.reaching.+push_in.Given as goal

abbrev pub decreases-push_in : goal.decreases-push_in
decreases-push_in l = length l.picks.now
