use Rattle.hll_expressions.specs.Answers.{IsFaultAt}
use Rattle.hll_types.specs.Defining.{demand_faults}
use Rattle.hll_expressions.specs.Scopes.{context}
use Rattle.hll_expressions.specs.Things.{names_of}
use Rattle.hll_expressions.proofs.FaultFolds.{handed}
use Rattle.hll_types.proofs.DefinitionSteps.{demand_first, demand_ends}
use Rattle.hll_types.proofs.define.demand.Goals as goal

pub returns-in_err-given : goal.returns-in_err-given
returns-in_err-given c =
    let all = names_of c.args.names.now in
    let f = c.in_err-given.field-0.0 in
    handed _ (IsFaultAt (demand_faults all c.args.expr.now)) c.from_residual.result f c.from_residual.ensures.1 (demand_first all c.args.expr.now (context c.asking.result) f c.asking.ensures c.in_err-given.ensures)

pub returns : goal.returns
returns c = demand_ends (names_of c.args.names.now) c.args.expr.now (context c.asking.result) c.asking.result.needs_constant c.in_ok-given.given c.truth.result c.asking.ensures c.in_ok-given.ensures c.truth.ensures
