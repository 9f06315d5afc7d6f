use Rattle.std.proofs.Common.{◌++◌}
use Rattle.hll_meaning.specs.Judging.{judged}
use Rattle.hll_meaning.specs.Types.{kind_of}
use Rattle.hll_expressions.specs.Answers.{IsFaultAt}
use Rattle.hll_expressions.specs.Scopes.{context}
use Rattle.hll_expressions.proofs.Firsts.{before}
use Rattle.hll_expressions.proofs.FaultFolds.{handed}
use Rattle.hll_types.proofs.GivenParts.{alone_fits}
use Rattle.hll_types.proofs.define.given_alone.Goals as goal

pub returns-in_err-given : goal.returns-in_err-given
returns-in_err-given c =
    let j = judged c.args.expr.now (context c.args.scope.now) in
    handed _ (IsFaultAt (j.faults ++ j.fits (kind_of c.args.kind.now))) c.from_residual.result c.in_err-given.field-0.0 c.from_residual.ensures.1 (before j.faults _ c.in_err-given.field-0.0 c.in_err-given.ensures)

pub returns : goal.returns
returns c = alone_fits c.args.scope.now.needs_constant c.in_ok-given.given (judged c.args.expr.now (context c.args.scope.now)) (kind_of c.args.kind.now) c.fit.result c.in_ok-given.ensures c.fit.ensures
