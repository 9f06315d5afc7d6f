use Rattle.cdcl_solver.proofs.Following.{IsFollowing}
use Rattle.cdcl_solver.proofs.search.Search.follow.Given as goal

abbrev pub invariant-loop-at : goal.invariant-loop-at
invariant-loop-at l = IsFollowing l.initial.self l.self l.literal l.at

abbrev pub decreases-loop-at : goal.decreases-loop-at
decreases-loop-at l = l.at
