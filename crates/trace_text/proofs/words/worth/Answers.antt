use Rattle.std.proofs.Common.{◌≡◌, ◌+◌, ◌-◌, ◌*◌, ◌^◌, min, [], ◌∷◌, take, get_or, sym, ap, ◌∙◌}
use Rattle.std.proofs.lemmas.List.{take_more}
use Rattle.std.proofs.lemmas.List.Sums.{fold-append}
use Rattle.trace_text.specs.Parts.{digits_value}
use Rattle.trace_text.proofs.NumberFronts.{worth_more}
use Rattle.trace_text.proofs.words.worth.Goals as goal

pub loop-digit-preserved : goal.loop-digit-preserved
loop-digit-preserved c =
    let digits = c.args.digits.now in
    let i = c.loop-digit.digit-index in
    let digit = get_or digits i 0 in
    let before = digits_value (take i digits) in
    let most = 2 ^ 128 - 1 in
    let more : digits_value (take (i + 1) digits) ≡ before * 10 + (digit - 48) =
    ap digits_value (take_more digits i 0 c.loop-digit-test.true) ∙ fold-append (λ n b. n * 10 + (b - 48)) 0 (take i digits) (digit ∷ []) in
    let front = c.saturating_mul.ensures ∙ ap (λ v. min (v * 10) most) c.loop-digit.invariant in
    let last = c.from.ensures ∙ c.saturating_sub.ensures in
    c.saturating_add-value.ensures ∙ (λ j. min (front j + last j) most) ∙ worth_more most before digit ∙ ap (λ v. min v most) (sym more)
