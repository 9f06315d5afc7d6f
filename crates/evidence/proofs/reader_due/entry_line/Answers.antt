use Rattle.evidence.proofs.ReadLines.{other_entry, entry_reads}
use Rattle.evidence.proofs.reader_due.entry_line.Goals as goal

pub returns-then-found-number : goal.returns-then-found-number
returns-then-found-number c =
    other_entry c.args.depth c.args.number c.args.text.now c.in_ok-rest.rest.now c.in_ok-found.found c.in_ok-found.rest.now c.requires.number
    c.in_ok-rest.ensures.1 c.in_ok-found.ensures c.if-found-number.true

pub returns : goal.returns
returns c =
    entry_reads c.args.depth c.args.number c.args.text.now c.in_ok-rest.rest.now c.in_ok-found.found c.in_ok-found.rest.now c.read_verdict.result c.requires.number
    c.in_ok-rest.ensures.1 c.in_ok-found.ensures c.if-found-number.false c.read_verdict.ensures
