use Rattle.std.proofs.Common.{ap}
use Rattle.hll_expressions.specs.declared.given.Given.{Choice}
use Rattle.hll_expressions.proofs.choice.choice_of_lists.Goals as goal

pub returns : goal.returns
returns c = ap (λ gs. Choice c.args.at c.args.kind gs) c.in_ok-push.ensures.ok
