use Rattle.std.proofs.Common.{[], refl, ◌∙◌, arith}
use Rattle.std.proofs.lemmas.List.{take_rest}
use Rattle.std.proofs.lemmas.Result.{err_from_is_err_and}
use Rattle.ports.proofs.Sending.{some_left}
use Rattle.evidence.proofs.SendingLemmas.{Sent-start, Sent-more, Sent-fault, Sent-stop, Sent-join}
use Rattle.evidence.proofs.sending.send.Goals as goal

pub loop-rest-init : goal.loop-rest-init
loop-rest-init g c = record {
  sent = Sent-start (g.D.Desk.told c.args.desk.now) c.args.name.now c.args.pending.now.items c.args.bytes.now;
  piece = c.requires.piece;
  later = omega arith;
  other_writes = λ other differs. refl;
  reads = λ name. refl;
  given = λ name. refl;
}

pub returns-in_err-make_room-clause-bytes : goal.returns-in_err-make_room-clause-bytes
returns-in_err-make_room-clause-bytes g c =
    let p = err_from_is_err_and c.from_residual.result c.from_residual.ensures.1 in
    rw p.1 (Sent-fault (g.D.Desk.told c.args.desk.now) (g.D.Desk.told c.loop-rest.desk) (g.D.Desk.told c.make_room.new.desk) c.args.name.now c.args.pending.now.items c.args.bytes.now c.loop-rest.rest.now
    c.loop-rest.pending.items c.make_room.new.pending.items c.loop-rest.invariant.sent [] c.loop-rest.rest.now c.in_err-make_room.field-0.0 p.0 c.make_room.new.pending.items refl c.in_err-make_room.ensures.bytes)

pub returns-in_err-count-clause-bytes : goal.returns-in_err-count-clause-bytes
returns-in_err-count-clause-bytes g c =
    let p = err_from_is_err_and c.from_residual-in_err-count.result c.from_residual-in_err-count.ensures.1 in
    let ready = Sent-more (g.D.Desk.told c.args.desk.now) (g.D.Desk.told c.loop-rest.desk) (g.D.Desk.told c.make_room.new.desk) c.args.name.now c.args.pending.now.items c.args.bytes.now c.loop-rest.rest.now
    c.loop-rest.pending.items c.make_room.new.pending.items c.loop-rest.invariant.sent [] c.loop-rest.rest.now refl c.in_ok-make_room.ensures.bytes in
    rw p.1 (Sent-stop (g.D.Desk.told c.args.desk.now) (g.D.Desk.told c.make_room.new.desk) c.args.name.now c.args.pending.now.items c.args.bytes.now c.loop-rest.rest.now c.make_room.new.pending.items ready p.0 []
    (some_left _ c.loop-rest-test.ensures))

pub loop-rest-preserved : goal.loop-rest-preserved
loop-rest-preserved g c = record {
  sent = rw take_rest (Sent-join (g.D.Desk.told c.args.desk.now) (g.D.Desk.told c.loop-rest.desk) (g.D.Desk.told c.make_room.new.desk) c.args.name.now c.args.pending.now.items c.args.bytes.now c.loop-rest.rest.now
      c.loop-rest.pending.items c.make_room.new.pending.items _ _ c.loop-rest.invariant.sent c.in_ok-make_room.ensures.bytes c.in_ok-count.ensures.items);
  piece = c.in_ok-count.ensures.piece;
  later = omega (arith, c.loop-rest.invariant.later, c.in_ok-make_room.ensures.cause.later);
  other_writes = λ other differs. c.in_ok-make_room.ensures.other_writes other differs ∙ c.loop-rest.invariant.other_writes other differs;
  reads = λ name. c.in_ok-make_room.ensures.reads name ∙ c.loop-rest.invariant.reads name;
  given = λ name. c.in_ok-make_room.ensures.given name ∙ c.loop-rest.invariant.given name;
}
