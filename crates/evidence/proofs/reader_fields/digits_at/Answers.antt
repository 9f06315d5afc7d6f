use Rattle.std.proofs.Common.{◌≡◌, length, take, ap, sym, ◌∙◌, arith}
use Rattle.lll_text.proofs.FieldLemmas.{digits-end, digits-past}
use Rattle.evidence.proofs.ReadNumbers.{Counted-more, Counted-stops}
use Rattle.evidence.proofs.reader_fields.digits_at.Goals as goal

pub returns-then-not-is_digit-clause-value : goal.returns-then-not-is_digit-clause-value
returns-then-not-is_digit-clause-value c = (Counted-stops c.args.text.now c.loop-count.value c.loop-count.count (digits-end c.args.text.now c.loop-count.count c.loop-count-test.true (sym c.is_digit.ensures ∙ c.if-not-is_digit.true)) c.loop-count.invariant).value_is

pub returns-then-not-is_digit-clause-front : goal.returns-then-not-is_digit-clause-front
returns-then-not-is_digit-clause-front c = (Counted-stops c.args.text.now c.loop-count.value c.loop-count.count (digits-end c.args.text.now c.loop-count.count c.loop-count-test.true (sym c.is_digit.ensures ∙ c.if-not-is_digit.true)) c.loop-count.invariant).front

pub returns-then-not-is_digit-clause-count : goal.returns-then-not-is_digit-clause-count
returns-then-not-is_digit-clause-count c = (Counted-stops c.args.text.now c.loop-count.value c.loop-count.count (digits-end c.args.text.now c.loop-count.count c.loop-count-test.true (sym c.is_digit.ensures ∙ c.if-not-is_digit.true)) c.loop-count.invariant).count_is

pub loop-count-preserved : goal.loop-count-preserved
loop-count-preserved c =
    Counted-more c.args.text.now c.loop-count.value c.saturating_add-value.result c.loop-count.count c.loop-count-test.true (sym c.is_digit.ensures ∙ c.if-not-is_digit.false)
    (omega (arith, c.saturating_mul.ensures, c.from.ensures, c.saturating_add-value.ensures)) c.loop-count.invariant

pub returns-clause-value : goal.returns-clause-value
returns-clause-value c = (Counted-stops c.args.text.now c.loop-count.value c.loop-count.count (digits-past c.args.text.now c.loop-count.count c.loop-count-test.false) c.loop-count.invariant).value_is

pub returns-clause-front : goal.returns-clause-front
returns-clause-front c =
    let e : c.loop-count.count ≡ length c.args.text.now = omega arith in
    (Counted-stops c.args.text.now c.loop-count.value c.loop-count.count (digits-past c.args.text.now c.loop-count.count c.loop-count-test.false) c.loop-count.invariant).front ∙ ap (λ n. take n c.args.text.now) e

pub returns-clause-count : goal.returns-clause-count
returns-clause-count c =
    let e : c.loop-count.count ≡ length c.args.text.now = omega arith in
    sym e ∙ (Counted-stops c.args.text.now c.loop-count.value c.loop-count.count (digits-past c.args.text.now c.loop-count.count c.loop-count-test.false) c.loop-count.invariant).count_is
