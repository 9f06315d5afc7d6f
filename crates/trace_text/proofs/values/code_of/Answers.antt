use Rattle.std.proofs.Common.{◌≡◌, false, true, Some, sym, ap, ◌∙◌}
use Rattle.std.proofs.lemmas.Slice.Eq.{bytes_eq-Decides}
use Rattle.hll_meaning.specs.Declarations.{names}
use Rattle.hll_meaning.specs.Kinds.{is_in}
use Rattle.hll_meaning.specs.Types.{ends}
use Rattle.trace_text.specs.Traces.{element_name}
use Rattle.trace_text.proofs.ElementNames.{code_under}
use Rattle.trace_text.proofs.SignedNumbers.{same_passed, short_in}
use Rattle.trace_text.proofs.TextFronts.{match_none}
use Rattle.trace_text.proofs.values.code_of.Goals as goal

pub returns-in_err-value : goal.returns-in_err-value
returns-in_err-value c = match_none _ _ _ c.from_residual.ensures (λ x within named.
    absurd (cc (c.in_err-value.ensures ∙ code_under c.args.checked.now c.requires.well c.args.root.now c.args.name.now x named c.requires.some)))

pub returns-then-not-holds : goal.returns-then-not-holds
returns-then-not-holds c = λ x within named.
    let found : Some c.in_ok-value.value ≡ Some x = c.in_ok-value.ensures ∙ code_under c.args.checked.now c.requires.well c.args.root.now c.args.name.now x named c.requires.some in
    let same : c.in_ok-value.value ≡ x = cc found in
    let both : true ≡ false = sym within ∙ ap (is_in (ends c.args.codes)) (sym (same_passed c.in_ok-value.value x same (short_in c.args.codes x within))) ∙ sym c.if-not-holds.ensures in
    absurd (cc both)

pub returns-else-eq : goal.returns-else-eq
returns-else-eq c = λ x within named.
    let found : Some c.in_ok-value.value ≡ Some x = c.in_ok-value.ensures ∙ code_under c.args.checked.now c.requires.well c.args.root.now c.args.name.now x named c.requires.some in
    let same : c.in_ok-value.value ≡ x = cc found in
    let name : c.element_name.result.now ≡ c.args.name.now =
    c.element_name.ensures ∙ ap (element_name (names c.args.checked.now) c.args.root.now) (same_passed c.in_ok-value.value x same (short_in c.args.codes x within)) ∙ named in
    let both : true ≡ false = sym ((bytes_eq-Decides c.element_name.result.now c.args.name.now).1 name) ∙ sym c.if-eq.ensures in
    absurd (cc both)
