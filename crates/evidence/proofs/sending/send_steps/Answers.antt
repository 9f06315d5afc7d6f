use Rattle.std.proofs.Common.{◌∙◌, List, Ok, refl, subst, arith}
use Rattle.std.specs.List.{flat_map}
use Rattle.std.proofs.lemmas.List.{take_all}
use Rattle.std.proofs.lemmas.Result.{err_from_is_err_and}
use Rattle.ports.specs.Contents.{Tells}
use Rattle.rup_checker.specs.declared.log.Step.{Step}
use Rattle.evidence.specs.Spelling.{step_line}
use Rattle.evidence.specs.Writing.{SendsTo}
use Rattle.evidence.proofs.SendingLemmas.{SendsTo-none, item-sent, item-fails}
use Rattle.evidence.proofs.sending.send_steps.Goals as goal

pub loop-step-init : goal.loop-step-init
loop-step-init g c = record {
  sent = SendsTo-none (g.D.Desk.told c.args.desk.now) c.args.name.now c.args.pending.now.items;
  piece = c.requires.piece;
  later = omega arith;
  other_writes = λ other differs. refl;
  reads = λ name. refl;
  given = λ name. refl;
}

pub returns-in_err-send_step-clause-bytes : goal.returns-in_err-send_step-clause-bytes
returns-in_err-send_step-clause-bytes g c =
    let p = err_from_is_err_and c.from_residual.result c.from_residual.ensures.1 in
    rw p.1 (item-fails step_line c.args.steps.now c.loop-step.step-index c.step-item.result c.loop-step-test.true c.step-item.is (g.D.Desk.told c.args.desk.now) (g.D.Desk.told c.loop-step.desk) (g.D.Desk.told c.send_step.new.desk)
    c.args.name.now c.args.pending.now.items c.loop-step.pending.items c.send_step.new.pending.items c.send_step.new.pending.items c.in_err-send_step.field-0.0 p.0 c.loop-step.invariant.sent c.in_err-send_step.ensures.bytes)

pub loop-step-preserved : goal.loop-step-preserved
loop-step-preserved g c = record {
  sent = item-sent step_line c.args.steps.now c.loop-step.step-index c.step-item.result c.loop-step-test.true c.step-item.is (g.D.Desk.told c.args.desk.now) (g.D.Desk.told c.loop-step.desk) (g.D.Desk.told c.send_step.new.desk)
      c.args.name.now c.args.pending.now.items c.loop-step.pending.items c.send_step.new.pending.items c.loop-step.invariant.sent c.in_ok-send_step.ensures.bytes;
  piece = c.in_ok-send_step.ensures.piece;
  later = omega (arith, c.loop-step.invariant.later, c.in_ok-send_step.ensures.cause.later);
  other_writes = λ other differs. c.in_ok-send_step.ensures.other_writes other differs ∙ c.loop-step.invariant.other_writes other differs;
  reads = λ name. c.in_ok-send_step.ensures.reads name ∙ c.loop-step.invariant.reads name;
  given = λ name. c.in_ok-send_step.ensures.given name ∙ c.loop-step.invariant.given name;
}

pub returns-clause-bytes : goal.returns-clause-bytes
returns-clause-bytes g c =
    subst (λ (xs : List Step). Tells (g.D.Desk.told c.args.desk.now) (g.D.Desk.told c.loop-step.desk) (SendsTo c.args.name.now c.args.pending.now.items (flat_map step_line xs) (Ok tt) c.loop-step.pending.items))
    (take_all c.loop-step.step-index c.args.steps.now c.loop-step-test.false) c.loop-step.invariant.sent
