use Rattle.std.proofs.Common.{sym, ap, ◌∙◌}
use Rattle.std.specs.List.{flat_map}
use Rattle.std.proofs.lemmas.List.{take_all}
use Rattle.hll_expressions.specs.Answers.{IsFaultAt}
use Rattle.hll_types.specs.Defining.{demand_faults}
use Rattle.hll_expressions.specs.Things.{names_of}
use Rattle.hll_expressions.proofs.Firsts.{none_more, first_at}
use Rattle.hll_expressions.proofs.FaultFolds.{handed}
use Rattle.hll_types.proofs.define.demand_each.Goals as goal

pub loop-expr-preserved : goal.loop-expr-preserved
loop-expr-preserved c =
    none_more (demand_faults (names_of c.args.names.now)) c.args.exprs.now c.loop-expr.expr-index c.expr-item.result c.loop-expr-test.true c.expr-item.is c.loop-expr.invariant c.in_ok-demand.ensures

pub returns-in_err-demand : goal.returns-in_err-demand
returns-in_err-demand c =
    let f = c.in_err-demand.field-0.0 in
    handed _ (IsFaultAt (flat_map (demand_faults (names_of c.args.names.now)) c.args.exprs.now)) c.from_residual.result f c.from_residual.ensures.1
    (first_at (demand_faults (names_of c.args.names.now)) c.args.exprs.now c.loop-expr.expr-index c.expr-item.result f c.loop-expr-test.true c.expr-item.is c.loop-expr.invariant c.in_err-demand.ensures)

pub returns : goal.returns
returns c = sym (ap (flat_map (demand_faults (names_of c.args.names.now))) (take_all c.loop-expr.expr-index c.args.exprs.now c.loop-expr-test.false)) ∙ c.loop-expr.invariant
