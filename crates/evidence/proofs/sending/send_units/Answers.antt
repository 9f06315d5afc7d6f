use Rattle.std.proofs.Common.{◌∙◌, List, Ok, refl, subst, arith}
use Rattle.std.specs.List.{flat_map}
use Rattle.std.proofs.lemmas.List.{take_all}
use Rattle.std.proofs.lemmas.Result.{err_from_is_err_and}
use Rattle.ports.specs.Contents.{Tells}
use Rattle.evidence.specs.declared.unit.Unit.{Unit}
use Rattle.evidence.specs.Units.{unit_text}
use Rattle.evidence.specs.Writing.{SendsTo}
use Rattle.evidence.proofs.SendingLemmas.{SendsTo-none, item-sent, item-fails}
use Rattle.evidence.proofs.sending.send_units.Goals as goal

pub loop-unit-init : goal.loop-unit-init
loop-unit-init g c = record {
  sent = SendsTo-none (g.D.Desk.told c.args.desk.now) c.args.name.now c.args.pending.now.items;
  piece = c.requires.piece;
  later = omega arith;
  other_writes = λ other differs. refl;
  reads = λ name. refl;
  given = λ name. refl;
}

pub returns-in_err-send_unit-clause-bytes : goal.returns-in_err-send_unit-clause-bytes
returns-in_err-send_unit-clause-bytes g c =
    let p = err_from_is_err_and c.from_residual.result c.from_residual.ensures.1 in
    rw p.1 (item-fails unit_text c.args.units.now c.loop-unit.unit-index c.unit-item.result c.loop-unit-test.true c.unit-item.is (g.D.Desk.told c.args.desk.now) (g.D.Desk.told c.loop-unit.desk) (g.D.Desk.told c.send_unit.new.desk)
    c.args.name.now c.args.pending.now.items c.loop-unit.pending.items c.send_unit.new.pending.items c.send_unit.new.pending.items c.in_err-send_unit.field-0.0 p.0 c.loop-unit.invariant.sent c.in_err-send_unit.ensures.bytes)

pub loop-unit-preserved : goal.loop-unit-preserved
loop-unit-preserved g c = record {
  sent = item-sent unit_text c.args.units.now c.loop-unit.unit-index c.unit-item.result c.loop-unit-test.true c.unit-item.is (g.D.Desk.told c.args.desk.now) (g.D.Desk.told c.loop-unit.desk) (g.D.Desk.told c.send_unit.new.desk)
      c.args.name.now c.args.pending.now.items c.loop-unit.pending.items c.send_unit.new.pending.items c.loop-unit.invariant.sent c.in_ok-send_unit.ensures.bytes;
  piece = c.in_ok-send_unit.ensures.piece;
  later = omega (arith, c.loop-unit.invariant.later, c.in_ok-send_unit.ensures.cause.later);
  other_writes = λ other differs. c.in_ok-send_unit.ensures.other_writes other differs ∙ c.loop-unit.invariant.other_writes other differs;
  reads = λ name. c.in_ok-send_unit.ensures.reads name ∙ c.loop-unit.invariant.reads name;
  given = λ name. c.in_ok-send_unit.ensures.given name ∙ c.loop-unit.invariant.given name;
}

pub returns-clause-bytes : goal.returns-clause-bytes
returns-clause-bytes g c =
    subst (λ (xs : List Unit). Tells (g.D.Desk.told c.args.desk.now) (g.D.Desk.told c.loop-unit.desk) (SendsTo c.args.name.now c.args.pending.now.items (flat_map unit_text xs) (Ok tt) c.loop-unit.pending.items))
    (take_all c.loop-unit.unit-index c.args.units.now c.loop-unit-test.false) c.loop-unit.invariant.sent
