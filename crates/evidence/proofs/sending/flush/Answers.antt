use Rattle.std.proofs.Common.{Err}
use Rattle.std.proofs.lemmas.Result.{err_from_is_err_and}
use Rattle.evidence.proofs.SendingLemmas.{SendsTo-piece}
use Rattle.evidence.proofs.sending.flush.Goals as goal

pub returns-in_err-put_all-clause-bytes : goal.returns-in_err-put_all-clause-bytes
returns-in_err-put_all-clause-bytes g c =
    let p = err_from_is_err_and c.from_residual.result c.from_residual.ensures.1 in
    rw p.1 (SendsTo-piece (g.D.Desk.told c.args.desk.now) (g.D.Desk.told c.put_all.new.desk) c.args.name.now c.args.pending.now.items c.args.pending.now.items (Err c.in_err-put_all.field-0.0) c.requires.some tt
    (rw (← c.deref.ensures.value) c.in_err-put_all.ensures.bytes))
