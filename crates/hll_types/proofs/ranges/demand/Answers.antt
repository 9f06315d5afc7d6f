use Rattle.std.proofs.Common.{ap}
use Rattle.hll_meaning.specs.Nodes.{nodes}
use Rattle.hll_meaning.specs.StaticRules.{demands}
use Rattle.hll_expressions.specs.Things.{names_of}
use Rattle.hll_types.proofs.RangeWalk.{asked_as}
use Rattle.hll_types.proofs.ranges.demand.Goals as goal

pub returns : goal.returns
returns c = asked_as (names_of c.args.names.now) _ _ (demands c.args.expr.now) _ c.expression.result (ap (nodes c.args.expr.now) c.asking-scope.ensures) c.expression.ensures
