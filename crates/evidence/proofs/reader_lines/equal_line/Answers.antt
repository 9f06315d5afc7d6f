use Rattle.evidence.proofs.ReadLines.{no_conflicts, no_equal}
use Rattle.evidence.proofs.reader_lines.equal_line.Goals as goal

pub returns-in_err-part : goal.returns-in_err-part
returns-in_err-part c = rw c.from_residual.ensures (no_conflicts c.args.parts c.args.text.now c.in-Some.rest.now c.in-Some.ensures.1 c.in_err-part.ensures)

pub returns-in_err-rest : goal.returns-in_err-rest
returns-in_err-rest c = rw c.from_residual-in_err-rest.ensures (no_equal c.args.parts c.args.text.now c.in_default.ensures c.in_err-rest.ensures)
