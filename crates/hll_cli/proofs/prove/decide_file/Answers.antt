use Rattle.hll_cli.proofs.Unanswered.{is_read, undecided}
use Rattle.hll_cli.proofs.prove.decide_file.Goals as goal

pub returns-clause-refused : goal.returns-clause-refused
returns-clause-refused g c = λ refusal failed.
    let read = c.in_ok-text.ensures in
    let now = c.read_text.new.desk in
    let refused = rw c.deref.ensures.value at c.decide.ensures.refused in
    undecided _ c.args.name.now c.in_ok-text.text.items
    (is_read (g.D.Desk.told c.args.desk.now) (g.D.Desk.told now) (g.D.Desk.read_faults c.args.desk.now) (g.D.Desk.read_faults now) (g.D.Desk.given c.args.desk.now) (g.D.Desk.given now)
    c.args.name.now c.in_ok-text.text.items read.bytes read.given read.within) refusal (refused refusal failed)
