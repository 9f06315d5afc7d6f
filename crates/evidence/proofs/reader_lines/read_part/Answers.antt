use Rattle.std.proofs.Common.{◌≤◌, ◌^◌, Some, arith}
use Rattle.std.specs.Prelude.{min}
use Rattle.lll_text.specs.Spelling.{number_field}
use Rattle.evidence.specs.Readers.{ReadsFront}
use Rattle.evidence.proofs.ReadFields.{refitted}
use Rattle.evidence.proofs.ReadLines.{no_part_zero, no_part_formula}
use Rattle.evidence.proofs.reader_lines.read_part.Goals as goal

pub returns-then-number-eq0 : goal.returns-then-number-eq0
returns-then-number-eq0 c =
    let n = c.in_ok-number.number in
    let front : ReadsFront (λ n. n ≤ min c.args.parts (2 ^ 32)) number_field c.args.text.now (Some (n, c.in_ok-number.rest.now)) =
    refitted (λ n. n ≤ c.min.result) (λ n. n ≤ min c.args.parts (2 ^ 32)) number_field c.args.text.now (Some (n, c.in_ok-number.rest.now))
    (λ x h. omega (arith, c.min.ensures, h)) (λ x h. omega (arith, c.min.ensures, h)) c.in_ok-number.ensures in
    no_part_zero c.args.parts c.args.text.now n c.in_ok-number.rest.now c.if-number-eq0.true front

pub returns-in_err-stepping : goal.returns-in_err-stepping
returns-in_err-stepping c =
    let n = c.in_ok-number.number in
    let front : ReadsFront (λ n. n ≤ min c.args.parts (2 ^ 32)) number_field c.args.text.now (Some (n, c.in_ok-number.rest.now)) =
    refitted (λ n. n ≤ c.min.result) (λ n. n ≤ min c.args.parts (2 ^ 32)) number_field c.args.text.now (Some (n, c.in_ok-number.rest.now))
    (λ x h. omega (arith, c.min.ensures, h)) (λ x h. omega (arith, c.min.ensures, h)) c.in_ok-number.ensures in
    rw c.from_residual-in_err-stepping.ensures (no_part_formula c.args.parts c.args.text.now n c.in_ok-number.rest.now front c.in_err-stepping.ensures)
