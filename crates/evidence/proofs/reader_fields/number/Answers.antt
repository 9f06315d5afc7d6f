use Rattle.std.proofs.Common.{◌≡◌, ◌≤◌, List, ℕ, Some, drop, sym, ap, subst, ◌∙◌}
use Rattle.std.specs.Prelude.{decimal}
use Rattle.lll_text.specs.Fields.{digits, is_numeral}
use Rattle.evidence.specs.Readers.{ReadsFront}
use Rattle.evidence.proofs.ReadNumbers.{past_digits, number_reads, not_numeral, too_large}
use Rattle.evidence.proofs.reader_fields.number.Goals as goal

pub returns-then-not-is_numeral : goal.returns-then-not-is_numeral
returns-then-not-is_numeral c =
    let same : digits c.args.text.now ≡ c.split_at.result.0.now = c.digits_at-value.ensures.front ∙ sym c.split_at.ensures.front in
    not_numeral c.args.text.now c.args.limit c.requires (ap is_numeral same ∙ sym c.is_numeral.ensures ∙ c.if-not-is_numeral.true)

pub returns-then-value-limit : goal.returns-then-value-limit
returns-then-value-limit c = too_large c.args.text.now c.args.limit c.digits_at-value.result.0 c.requires c.digits_at-value.ensures.value c.if-value-limit.true

pub returns : goal.returns
returns c =
    let text = c.args.text.now in
    let value = c.digits_at-value.result.0 in
    let same : digits text ≡ c.split_at.result.0.now = c.digits_at-value.ensures.front ∙ sym c.split_at.ensures.front in
    let numeral = ap is_numeral same ∙ sym c.is_numeral.ensures ∙ c.if-not-is_numeral.false in
    let past : past_digits text ≡ c.split_at.result.1.now = ap (λ (n : ℕ). drop n text) (sym c.digits_at-value.ensures.count) ∙ sym c.split_at.ensures.back in
    subst (λ (r : List ℕ). ReadsFront (λ n. n ≤ c.args.limit) decimal text (Some (value, r))) past
    (number_reads text c.args.limit value c.requires c.digits_at-value.ensures.value numeral c.if-value-limit.false)
