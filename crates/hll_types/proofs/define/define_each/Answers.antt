use Rattle.std.proofs.Common.{fold}
use Rattle.hll_expressions.specs.Answers.{IsFaultAt}
use Rattle.hll_types.specs.Defining.{with_definition}
use Rattle.hll_expressions.specs.Things.{names_of}
use Rattle.hll_expressions.proofs.FaultFolds.{handed}
use Rattle.hll_types.proofs.PassFolds.{definitions_more, definitions_fail, definitions_done}
use Rattle.hll_types.proofs.define.define_each.Goals as goal

pub loop-def-preserved : goal.loop-def-preserved
loop-def-preserved c p after =
    definitions_more (names_of c.args.names.now) c.loop-def.defined c.definition.new.defined c.args.defs.now c.loop-def.def-index c.def-item.result p c.loop-def-test.true c.def-item.is (c.loop-def.invariant p after) c.in_ok-definition.ensures

pub returns-in_err-definition : goal.returns-in_err-definition
returns-in_err-definition c p after =
    let f = c.in_err-definition.field-0.0 in
    handed _ (IsFaultAt (fold (with_definition (names_of c.args.names.now)) p c.args.defs.now).faults) c.from_residual.result f c.from_residual.ensures.1
    (definitions_fail (names_of c.args.names.now) c.loop-def.defined c.args.defs.now c.loop-def.def-index c.def-item.result p f c.loop-def-test.true c.def-item.is (c.loop-def.invariant p after) c.in_err-definition.ensures)

pub returns : goal.returns
returns c p after = definitions_done (names_of c.args.names.now) c.loop-def.defined c.args.defs.now c.loop-def.def-index p c.loop-def-test.false (c.loop-def.invariant p after)
