use Rattle.std.proofs.Common.{rules, ◌≡◌, ℕ, [], List, Ok, Err, subst}
use Rattle.std.specs.List.{flat_map}
use Rattle.std.proofs.lemmas.Result.{err_from_is_err_and}
use Rattle.ports.specs.Contents.{Tells}
use Rattle.evidence.specs.Units.{unit_text}
use Rattle.evidence.specs.Writing.{SendsTo}
use Rattle.evidence.proofs.SendingLemmas.{SendsTo-last, SendsTo-emptied}
use Rattle.evidence.proofs.sending.send_all.Goals as goal

pub returns-in_err-send_units-clause-bytes : goal.returns-in_err-send_units-clause-bytes
returns-in_err-send_units-clause-bytes g c =
    let p = err_from_is_err_and c.from_residual.result c.from_residual.ensures.1 in
    let none : c.new-pending.result.items ≡ [] = search rules in
    let first = g.D.Desk.told c.args.desk.now in
    let now = g.D.Desk.told c.send_units.new.desk in
    let told : Tells first now (SendsTo c.args.name.now [] (flat_map unit_text c.args.units.now) (Err p.0) []) =
    subst (λ (t : List ℕ). Tells first now (SendsTo c.args.name.now t (flat_map unit_text c.args.units.now) (Err c.in_err-send_units.field-0.0) [])) none c.in_err-send_units.ensures.bytes in
    rw p.1 told

pub returns-clause-bytes : goal.returns-clause-bytes
returns-clause-bytes g c =
    let none : c.new-pending.result.items ≡ [] = search rules in
    let first = g.D.Desk.told c.args.desk.now in
    let before = g.D.Desk.told c.send_units.new.desk in
    let now = g.D.Desk.told c.flush.new.desk in
    let sent : Tells first before (SendsTo c.args.name.now [] (flat_map unit_text c.args.units.now) (Ok tt) c.send_units.new.pending.items) =
    subst (λ (t : List ℕ). Tells first before (SendsTo c.args.name.now t (flat_map unit_text c.args.units.now) (Ok tt) c.send_units.new.pending.items)) none c.in_ok-send_units.ensures.bytes in
    SendsTo-last first before now c.args.name.now [] (flat_map unit_text c.args.units.now) c.send_units.new.pending.items [] c.flush.result sent
    (SendsTo-emptied before now c.args.name.now c.send_units.new.pending.items [] c.flush.new.pending.items c.flush.result c.flush.ensures.none c.flush.ensures.bytes)
