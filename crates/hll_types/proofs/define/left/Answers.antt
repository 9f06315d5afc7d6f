use Rattle.std.proofs.Common.{fold, sym, ap, subst, ◌∙◌}
use Rattle.std.proofs.lemmas.List.{take_all}
use Rattle.hll_meaning.specs.StaticRules.{Left, with_slot}
use Rattle.hll_expressions.specs.Answers.{IsFaultAt}
use Rattle.hll_types.specs.Defining.{left_of}
use Rattle.hll_expressions.proofs.FaultFolds.{handed, step_more, first_of_step}
use Rattle.hll_types.proofs.LeftSides.{slot_keeps}
use Rattle.hll_types.proofs.define.left.Goals as goal

pub loop-slot-preserved : goal.loop-slot-preserved
loop-slot-preserved c =
    let start : Left = left_of c.args.kind.now c.args.bound.now.items in
    step_more with_slot start c.args.slots.now c.loop-slot.slot-index c.slot-item.result c.loop-slot-test.true c.slot-item.is ∙ ap (λ (l : Left). with_slot l c.slot-item.result) c.loop-slot.invariant ∙ c.in_ok-rest.ensures

pub returns-in_err-rest : goal.returns-in_err-rest
returns-in_err-rest c =
    let start : Left = left_of c.args.kind.now c.args.bound.now.items in
    let f = c.in_err-rest.field-0.0 in
    handed _ (IsFaultAt (fold with_slot start c.args.slots.now).faults) c.from_residual.result f c.from_residual.ensures.1
    (first_of_step with_slot (λ l. l.faults) slot_keeps start c.args.slots.now c.loop-slot.slot-index c.slot-item.result f c.loop-slot-test.true c.slot-item.is
    (subst (λ (l : Left). IsFaultAt (with_slot l c.slot-item.result).faults f) (sym c.loop-slot.invariant) c.in_err-rest.ensures))

pub returns : goal.returns
returns c =
    let start : Left = left_of c.args.kind.now c.args.bound.now.items in
    sym (ap (fold with_slot start) (take_all c.loop-slot.slot-index c.args.slots.now c.loop-slot-test.false)) ∙ c.loop-slot.invariant
