use Rattle.evidence.proofs.FollowTurns.{few_models, pairs_all}
use Rattle.evidence.proofs.claims_following.judge_models.Goals as goal

pub new-requires : goal.new-requires
new-requires c = few_models c.args.progress.now c.in-Some.a c.in-Some-second.b c.in-Some.is c.in-Some-second.is c.requires

pub returns : goal.returns
returns c = pairs_all c.args.progress.now c.args.heading c.in-Some.a c.in-Some-second.b c.new.result c.in-Some.is c.in-Some-second.is c.new.ensures
