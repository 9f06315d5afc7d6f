use Rattle.std.proofs.Common.{false, refl}
use Rattle.hll_expressions.proofs.TogetherLemmas.{begins_as, added_as}
use Rattle.hll_expressions.proofs.choice.with_branch.Goals as goal

pub returns-in_ok-kind-in-None : goal.returns-in_ok-kind-in-None
returns-in_ok-kind-in-None c = λ needs j d. begins_as c.args.before (record { kind = c.in_ok-kind-in-None.kind; wide = false; uneven = false }) c.args.branch.now needs j c.in-None.is c.in_ok-kind-in-None.ensures refl refl d

pub returns-in-Some : goal.returns-in-Some
returns-in-Some c = added_as c.args.before c.in-Some.before c.args.branch.now c.joined.result c.in-Some.is c.joined.ensures
