use Rattle.evidence.proofs.FollowTurns.{follows_all_parts}
use Rattle.evidence.proofs.claims_following.judge_parts_line.Goals as goal

pub returns : goal.returns
returns c = follows_all_parts c.args.progress.now c.args.judged c.args.number c.args.said c.parts.result c.parts.ensures
