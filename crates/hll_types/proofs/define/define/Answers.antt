use Rattle.std.proofs.Common.{refl}
use Rattle.hll_expressions.specs.Answers.{IsFaultAt}
use Rattle.hll_types.specs.Defining.{pass2}
use Rattle.hll_expressions.specs.Things.{names_of}
use Rattle.hll_expressions.proofs.FaultFolds.{handed}
use Rattle.hll_types.proofs.PassFolds.{sections_more, sections_fail, sections_done}
use Rattle.hll_types.proofs.define.define.Goals as goal

pub loop-section-init : goal.loop-section-init
loop-section-init c = record { keeps = c.new-defined.ensures; faultless = refl }

pub loop-section-preserved : goal.loop-section-preserved
loop-section-preserved c =
    sections_more (names_of c.args.names.now) c.loop-section.defined c.ask.new.defined c.as_slice-section-items.result.now c.loop-section.section-index c.section-item.result c.loop-section-test.true c.section-item.is c.loop-section.invariant c.in_ok-ask.ensures

pub returns-in_err-ask : goal.returns-in_err-ask
returns-in_err-ask c =
    let f = c.in_err-ask.field-0.0 in
    handed _ (IsFaultAt (pass2 (names_of c.args.names.now) c.args.model.now).faults) c.from_residual.result f c.from_residual.ensures.1
    (sections_fail (names_of c.args.names.now) c.loop-section.defined c.args.model.now c.as_slice-section-items.result.now c.loop-section.section-index c.section-item.result f c.as_slice-section-items.ensures c.loop-section-test.true c.section-item.is c.loop-section.invariant c.in_err-ask.ensures)

pub returns : goal.returns
returns c = sections_done (names_of c.args.names.now) c.loop-section.defined c.args.model.now c.as_slice-section-items.result.now c.loop-section.section-index c.as_slice-section-items.ensures c.loop-section-test.false c.loop-section.invariant
