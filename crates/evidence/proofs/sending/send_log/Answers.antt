use Rattle.std.proofs.Common.{ℕ, List, Ok, Err, length, subst}
use Rattle.std.specs.Prelude.{codes}
use Rattle.std.specs.List.{flat_map}
use Rattle.std.proofs.lemmas.Result.{err_from_is_err_and}
use Rattle.ports.specs.Contents.{Tells}
use Rattle.rup_checker.specs.declared.log.Step.{Step}
use Rattle.evidence.specs.Spelling.{number_line, step_line}
use Rattle.evidence.specs.Writing.{SendsTo}
use Rattle.evidence.proofs.SendingLemmas.{SendsTo-fault, SendsTo-more}
use Rattle.evidence.proofs.sending.send_log.Goals as goal

pub returns-in_err-send_log_line-clause-bytes : goal.returns-in_err-send_log_line-clause-bytes
returns-in_err-send_log_line-clause-bytes g c =
    let p = err_from_is_err_and c.from_residual.result c.from_residual.ensures.1 in
    let first = g.D.Desk.told c.args.desk.now in
    let now = g.D.Desk.told c.send_log_line.new.desk in
    let left = c.send_log_line.new.pending.items in
    let steps = c.args.log.now.steps in
    rw p.1 (SendsTo-fault first now c.args.name.now c.args.pending.now.items (number_line (codes "log") (length steps)) (flat_map step_line steps) left left c.in_err-send_log_line.field-0.0 p.0
    (subst (λ (n : ℕ). Tells first now (SendsTo c.args.name.now c.args.pending.now.items (number_line (codes "log") n) (Err c.in_err-send_log_line.field-0.0) left)) c.len.ensures c.in_err-send_log_line.ensures.bytes))

pub returns-clause-bytes : goal.returns-clause-bytes
returns-clause-bytes g c =
    let first = g.D.Desk.told c.args.desk.now in
    let before = g.D.Desk.told c.send_log_line.new.desk in
    let now = g.D.Desk.told c.send_steps.new.desk in
    let left = c.send_log_line.new.pending.items in
    let last = c.send_steps.new.pending.items in
    let steps = c.args.log.now.steps in
    SendsTo-more first before now c.args.name.now c.args.pending.now.items (number_line (codes "log") (length steps)) (flat_map step_line steps) left last c.send_steps.result
    (subst (λ (n : ℕ). Tells first before (SendsTo c.args.name.now c.args.pending.now.items (number_line (codes "log") n) (Ok tt) left)) c.len.ensures c.in_ok-send_log_line.ensures.bytes)
    (subst (λ (xs : List Step). Tells before now (SendsTo c.args.name.now left (flat_map step_line xs) c.send_steps.result last)) c.as_slice.ensures c.send_steps.ensures.bytes)
