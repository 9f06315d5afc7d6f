use Rattle.std.proofs.Common.{◌≡◌, length, take, ap, sym, ◌∙◌, arith}
use Rattle.std.proofs.lemmas.Bool.{eq-eqb, ne_eqb}
use Rattle.lll_text.proofs.FieldLemmas.{Passed-more, Passed-ends, to_line_end-here, to_line_end-past}
use Rattle.lll_text.proofs.field.to_line_end.Goals as goal

pub returns-then-byte-eq10-clause-count : goal.returns-then-byte-eq10-clause-count
returns-then-byte-eq10-clause-count c = (Passed-ends c.args.text.now c.loop-count.count (to_line_end-here c.args.text.now c.loop-count.count c.loop-count-test.true (eq-eqb _ _ c.if-byte-eq10.true)) c.loop-count.invariant).count_is

pub returns-then-byte-eq10-clause-line : goal.returns-then-byte-eq10-clause-line
returns-then-byte-eq10-clause-line c = (Passed-ends c.args.text.now c.loop-count.count (to_line_end-here c.args.text.now c.loop-count.count c.loop-count-test.true (eq-eqb _ _ c.if-byte-eq10.true)) c.loop-count.invariant).front

pub loop-count-preserved : goal.loop-count-preserved
loop-count-preserved c = Passed-more c.args.text.now c.loop-count.count c.loop-count-test.true (ne_eqb _ _ c.if-byte-eq10.false) c.loop-count.invariant

pub returns-clause-count : goal.returns-clause-count
returns-clause-count c =
    let e : c.loop-count.count ≡ length c.args.text.now = omega arith in
    sym e ∙ (Passed-ends c.args.text.now c.loop-count.count (to_line_end-past c.args.text.now c.loop-count.count c.loop-count-test.false) c.loop-count.invariant).count_is

pub returns-clause-line : goal.returns-clause-line
returns-clause-line c =
    let e : c.loop-count.count ≡ length c.args.text.now = omega arith in
    (Passed-ends c.args.text.now c.loop-count.count (to_line_end-past c.args.text.now c.loop-count.count c.loop-count-test.false) c.loop-count.invariant).front ∙ ap (λ n. take n c.args.text.now) e
