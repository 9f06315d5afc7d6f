use Rattle.std.proofs.Common.{◌≤◌, arith}
use Rattle.lll_text.specs.Spelling.{number_field}
use Rattle.evidence.proofs.ReadLines.{not_front, other_number, is_something}
use Rattle.evidence.proofs.reader_lines.number_in.Goals as goal

pub returns-in_err-n : goal.returns-in_err-n
returns-in_err-n c = rw c.from_residual.ensures (not_front (λ n. n ≤ c.args.most) (λ n. (c.args.least ≤ n) × (n ≤ c.args.most)) number_field c.args.text.now (λ x h. h.1) c.in_err-n.ensures)

pub returns-then-not-is_empty : goal.returns-then-not-is_empty
returns-then-not-is_empty c =
    other_number c.args.least c.args.most c.args.text.now c.in_ok-n.n c.in_ok-n.rest.now (omega (arith, c.requires)) c.in_ok-n.ensures
    (λ e le. is_something c.in_ok-n.rest.now c.is_empty.result c.is_empty.ensures c.if-not-is_empty.true e)

pub returns-then-n-least : goal.returns-then-n-least
returns-then-n-least c =
    other_number c.args.least c.args.most c.args.text.now c.in_ok-n.n c.in_ok-n.rest.now (omega (arith, c.requires)) c.in_ok-n.ensures
    (λ e le. omega (arith, c.if-n-least.true, le))
