use Rattle.std.proofs.Common.{ℕ, [], List, ◌∙◌, ap, subst}
use Rattle.std.specs.List.{flat_map}
use Rattle.std.proofs.lemmas.Result.{err_from_is_err_and}
use Rattle.ports.specs.Contents.{Tells}
use Rattle.evidence.specs.Spelling.{text}
use Rattle.evidence.specs.Units.{unit_text}
use Rattle.evidence.specs.Writing.{SendsTo}
use Rattle.evidence.proofs.SendingLemmas.{unwritten, unbegun, written}
use Rattle.evidence.proofs.writing.write_evidence.Goals as goal

pub returns-in_err-units-clause-bytes : goal.returns-in_err-units-clause-bytes
returns-in_err-units-clause-bytes g c =
    let p = err_from_is_err_and c.from_residual.result c.from_residual.ensures.1 in
    rw p.1 (unwritten (g.D.Desk.told c.args.desk.now) c.args.name.now (text c.args.e.now) p.0)

pub returns-in_err-begin-clause-bytes : goal.returns-in_err-begin-clause-bytes
returns-in_err-begin-clause-bytes g c =
    let p = err_from_is_err_and c.from_residual-in_err-begin.result c.from_residual-in_err-begin.ensures.1 in
    rw p.1 (unbegun (g.D.Desk.told c.args.desk.now) (g.D.Desk.told c.begin.new.self) c.args.name.now (text c.args.e.now) c.in_err-begin.field-0.0 p.0 c.in_err-begin.ensures.bytes)

pub returns-clause-bytes : goal.returns-clause-bytes
returns-clause-bytes g c =
    written (g.D.Desk.told c.args.desk.now) (g.D.Desk.told c.begin.new.self) (g.D.Desk.told c.send_all.new.desk) c.args.name.now (text c.args.e.now) c.send_all.result c.in_ok-begin.ensures.bytes
    (subst (λ (t : List ℕ). Tells (g.D.Desk.told c.begin.new.self) (g.D.Desk.told c.send_all.new.desk) (SendsTo c.args.name.now [] t c.send_all.result [])) (ap (flat_map unit_text) c.deref.ensures.value ∙ c.in_ok-units.ensures)
    c.send_all.ensures.bytes)
