use Rattle.std.proofs.Common.{rules}
use Rattle.hll_cli.specs.Texts.{IsMisspelled}
use Rattle.hll_cli.proofs.Unanswered.{is_read, unformatted}
use Rattle.hll_cli.proofs.format.format_file.Goals as goal

pub returns-in_err-spelled-clause-refused : goal.returns-in_err-spelled-clause-refused
returns-in_err-spelled-clause-refused g c = λ refusal failed.
    let read = c.in_ok-text.ensures in
    let now = c.read_text.new.desk in
    let misspelled : IsMisspelled c.deref.result.now refusal = search rules in
    unformatted _ c.args.name.now c.in_ok-text.text.items
    (is_read (g.D.Desk.told c.args.desk.now) (g.D.Desk.told now) (g.D.Desk.read_faults c.args.desk.now) (g.D.Desk.read_faults now) (g.D.Desk.given c.args.desk.now) (g.D.Desk.given now)
    c.args.name.now c.in_ok-text.text.items read.bytes read.given read.within) refusal (rw c.deref.ensures.value at misspelled)
