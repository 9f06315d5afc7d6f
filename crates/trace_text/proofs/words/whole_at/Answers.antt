use Rattle.std.proofs.Common.{ℕ, suc, subst}
use Rattle.trace_text.specs.Parts.{StandsNumber}
use Rattle.trace_text.proofs.NumberFronts.{behind_sign, negative_found, not_zero}
use Rattle.trace_text.proofs.TextFronts.{match_none}
use Rattle.trace_text.proofs.words.whole_at.Goals as goal

pub returns-in_err-value-in-Some : goal.returns-in_err-value-in-Some
returns-in_err-value-in-Some c =
    match_none _ _ _ c.from_residual.ensures (λ x short after stands.
    let b = behind_sign c.in-Some.digits.now c.args.text.now after x c.in-Some.ensures short stands in
    c.in_err-value-in-Some.ensures (suc b.0) b.2 after b.3)

pub returns-then-value-eq0 : goal.returns-then-value-eq0
returns-then-value-eq0 c = λ x short after stands.
    let rest = c.in_ok-value-in-Some.rest.now in
    let there = subst (λ (n : ℕ). StandsNumber c.in-Some.digits.now n rest) c.if-value-eq0.true c.in_ok-value-in-Some.ensures.1 in
    not_zero c.in-Some.digits.now c.args.text.now after rest x c.in-Some.ensures short there stands

pub returns-else-value-eq0 : goal.returns-else-value-eq0
returns-else-value-eq0 c =
    negative_found c.in-Some.digits.now c.args.text.now c.in_ok-value-in-Some.rest.now c.in_ok-value-in-Some.value c.from.result c.in-Some.ensures c.in_ok-value-in-Some.ensures.0 c.in_ok-value-in-Some.ensures.1 c.if-value-eq0.false c.from.ensures (record { sfits = c.from.type_inv })
