use Rattle.std.proofs.Common.{◌≡◌}
use Rattle.std.specs.List.{AllByRecursion}
use Rattle.hll_meaning.specs.Nodes.{nodes}
use Rattle.hll_meaning.specs.NodeLaws.{IsFaultless}
use Rattle.hll_meaning.specs.Judging.{judged}
use Rattle.hll_expressions.specs.Scopes.{context}
use Rattle.hll_expressions.proofs.FaultFolds.{handed}
use Rattle.hll_types.proofs.RangeWalk.{itself_faultless, only_memory}
use Rattle.hll_expressions.specs.declared.faults.StaticFault.TheVariants.{Memory}
use Rattle.hll_types.proofs.ranges.expression.Goals as goal

pub returns-in_err-_given : goal.returns-in_err-_given
returns-in_err-_given c =
    let k = context c.args.scope.now in
    let f = c.in_err-_given.field-0.0 in
    handed _ (λ e. AllByRecursion IsFaultless (nodes c.args.expr.now k) → e ≡ Memory) c.from_residual.result f c.from_residual.ensures.1 (λ fine. only_memory (judged c.args.expr.now k).faults f (itself_faultless c.args.expr.now k fine) c.in_err-_given.ensures.answer)
