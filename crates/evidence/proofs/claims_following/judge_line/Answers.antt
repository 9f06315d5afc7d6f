use Rattle.evidence.proofs.FollowTurns.{expects_line, has_first, follows_all}
use Rattle.evidence.proofs.claims_following.judge_line.Goals as goal

pub take-requires : goal.take-requires
take-requires c = expects_line c.args.first.now c.args.judged.now c.args.number c.args.statement _ c.requires c.in-Some.is

pub unreachable-requires : goal.unreachable-requires
unreachable-requires c = has_first c.args.first.now c.args.judged.now c.args.number c.args.statement c.requires c.in-None.is

pub returns : goal.returns
returns c = follows_all c.args.first.now c.args.judged.now c.take.new.self c.args.number c.args.statement _ c.take.result c.in-Some.is c.take.ensures
