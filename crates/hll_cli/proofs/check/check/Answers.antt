use Rattle.std.proofs.Common.{ap, ◌∙◌}
use Rattle.hll_cli.specs.Check.{summary_text, summary_status}
use Rattle.hll_cli.proofs.Checked.{checked, long, form, refused}
use Rattle.hll_cli.proofs.check.check.Goals as goal

pub returns-in_ok-summary-in-Ok-clause-answer : goal.returns-in_ok-summary-in-Ok-clause-answer
returns-in_ok-summary-in-Ok-clause-answer g c =
    let now = c.read_and_check.new.desk in
    checked (g.D.Desk.told c.args.desk.now) (g.D.Desk.read_faults c.args.desk.now) (g.D.Desk.read_faults now) (g.D.Desk.given c.args.desk.now) (g.D.Desk.given now) c.args.name.now c.in-Ok.found c.status_of.result
    c.in_ok-summary-in-Ok.field-0.items c.in-Ok.ensures.answer (c.in_ok-summary-in-Ok.ensures ∙ ap summary_text c.as_slice-in-Ok.ensures) (c.status_of.ensures ∙ ap summary_status c.as_slice.ensures)

pub returns-in_ok-long_line-in-Err-Long-clause-answer : goal.returns-in_ok-long_line-in-Err-Long-clause-answer
returns-in_ok-long_line-in-Err-Long-clause-answer g c =
    let now = c.read_and_check.new.desk in
    rw c.unaccepted.ensures.status (long (g.D.Desk.told c.args.desk.now) (g.D.Desk.read_faults c.args.desk.now) (g.D.Desk.read_faults now) (g.D.Desk.given c.args.desk.now) (g.D.Desk.given now) c.args.name.now
    c.unaccepted.result.output.items (rw c.in-Err-Long.field-0-is at c.in-Err-Long.ensures.answer) (c.unaccepted.ensures.output ∙ c.in_ok-long_line-in-Err-Long.ensures))

pub returns-in_ok-form_line-in-Err-Form-clause-answer : goal.returns-in_ok-form_line-in-Err-Form-clause-answer
returns-in_ok-form_line-in-Err-Form-clause-answer g c =
    let now = c.read_and_check.new.desk in
    rw c.unaccepted-in-Err-Form.ensures.status (form (g.D.Desk.told c.args.desk.now) (g.D.Desk.read_faults c.args.desk.now) (g.D.Desk.read_faults now) (g.D.Desk.given c.args.desk.now) (g.D.Desk.given now) c.args.name.now
    c.in-Err-Form.line c.unaccepted-in-Err-Form.result.output.items (rw c.in-Err-Form.field-0-is at c.in-Err-Form.ensures.answer) (c.unaccepted-in-Err-Form.ensures.output ∙ c.in_ok-form_line-in-Err-Form.ensures))

pub returns-in_ok-refused_line-in-Err-Refused-clause-answer : goal.returns-in_ok-refused_line-in-Err-Refused-clause-answer
returns-in_ok-refused_line-in-Err-Refused-clause-answer g c =
    let now = c.read_and_check.new.desk in
    rw c.unaccepted-in-Err-Refused.ensures.status (refused (g.D.Desk.told c.args.desk.now) (g.D.Desk.read_faults c.args.desk.now) (g.D.Desk.read_faults now) (g.D.Desk.given c.args.desk.now) (g.D.Desk.given now) c.args.name.now
    c.in-Err-Refused.line c.in-Err-Refused.cause c.unaccepted-in-Err-Refused.result.output.items (rw c.in-Err-Refused.field-0-is at c.in-Err-Refused.ensures.answer)
    (c.unaccepted-in-Err-Refused.ensures.output ∙ c.in_ok-refused_line-in-Err-Refused.ensures))
