use Rattle.evidence.proofs.FollowTurns.{is_read, ends_so}
use Rattle.evidence.proofs.claims_following.judge_end.Goals as goal

pub outcome-requires : goal.outcome-requires
outcome-requires c = is_read c.args.judged c.requires

pub returns-clause-judged : goal.returns-clause-judged
returns-clause-judged c = ends_so c.args.judged c.outcome.result c.outcome.ensures.judged
