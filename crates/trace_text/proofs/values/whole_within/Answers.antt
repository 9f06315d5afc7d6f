use Rattle.std.proofs.Common.{ℤ, sym, ap, subst, ◌∙◌}
use Rattle.hll_meaning.specs.Kinds.{whole, is_in}
use Rattle.hll_meaning.specs.Types.{ends}
use Rattle.trace_text.specs.Faults.{HasValue}
use Rattle.trace_text.proofs.SignedNumbers.{short_passed}
use Rattle.trace_text.proofs.TextFronts.{match_none}
use Rattle.trace_text.proofs.NumberFronts.{one_whole}
use Rattle.trace_text.proofs.ValueFronts.{whole_has, whole_stands}
use Rattle.trace_text.proofs.values.whole_within.Goals as goal

pub returns-in_err-value : goal.returns-in_err-value
returns-in_err-value c = λ all. match_none _ _ _ c.from_residual.ensures (λ x after has.
    let s = whole_stands all c.args.within c.args.text.now after x has in c.in_err-value.ensures x s.0 after s.1)

pub returns-then-holds : goal.returns-then-holds
returns-then-holds c = λ all.
    let v = c.in_ok-value.value in
    let short = c.in_ok-value.ensures.0 in
    let same = short_passed v short in
    let within = ap (is_in (ends c.args.within)) (sym same) ∙ sym c.if-holds.ensures in
    subst (λ (x : ℤ). HasValue all (whole (ends c.args.within)) c.args.text.now x c.in_ok-value.rest.now) (sym same)
    (whole_has all c.args.within c.args.text.now c.in_ok-value.rest.now v short within c.in_ok-value.ensures.1)

pub returns-else-holds : goal.returns-else-holds
returns-else-holds c = λ all x after has.
    let v = c.in_ok-value.value in
    let short = c.in_ok-value.ensures.0 in
    let s = whole_stands all c.args.within c.args.text.now after x has in
    let one = one_whole c.args.text.now after c.in_ok-value.rest.now x v s.0 short s.1 c.in_ok-value.ensures.1 in
    let both = sym has.value.0 ∙ ap (is_in (ends c.args.within)) (one.0 ∙ sym (short_passed v short)) ∙ sym c.if-holds.ensures in
    absurd (cc both)
