use Rattle.std.proofs.Common.{◌≤◌, length, map, sym, ap, ◌∙◌, arith}
use Rattle.std.proofs.lemmas.List.{length-map}
use Rattle.hll_cli.proofs.Decisions.{too_long, other_form, too_many, asked_boolean, asked_declared, accepted_text, report_of, as_many}
use Rattle.hll_cli.proofs.Refusals.{refused_alone}
use Rattle.hll_cli.proofs.decision.decide_model.Goals as goal
use Rattle.hll_cli.proofs.decision.decide_model.Goals.{then-tokens-gt-MAX_TOKENS-via-then-tokens-gt-MAX_TOKENS, then-tokens-gt-MAX_TOKENS-via-else-tokens-gt-MAX_TOKENS+then-not-is_built}

pub returns-then-tokens-gt-MAX_TOKENS-clause-refused : goal.returns-then-tokens-gt-MAX_TOKENS-clause-refused
returns-then-tokens-gt-MAX_TOKENS-clause-refused c = λ r failed.
    let spelled = c.requires.spelled in
    let only = c.requires.only in
    let well = c.requires.well in
    refused_alone _ _ r failed
    (elim c.then-tokens-gt-MAX_TOKENS.branch [
      | then-tokens-gt-MAX_TOKENS-via-then-tokens-gt-MAX_TOKENS w ↦ too_long _ _ _ spelled only well w.if-tokens-gt-MAX_TOKENS.true
      | then-tokens-gt-MAX_TOKENS-via-else-tokens-gt-MAX_TOKENS+then-not-is_built w ↦ other_form _ _ _ spelled only well (sym w.is_built.ensures ∙ w.if-not-is_built.true)
    ])

pub returns-then-len-gt-MAX_INPUTS-clause-refused : goal.returns-then-len-gt-MAX_INPUTS-clause-refused
returns-then-len-gt-MAX_INPUTS-clause-refused c = λ r failed.
    refused_alone _ _ r failed
    (too_many _ _ _ c.requires.spelled c.requires.only _ c.in_ok-names.ensures c.requires.well
    (let long = length-map c.in_ok-names.names.items (λ n. n.now) in let len = c.in_ok-names.names.ok.0 in omega (arith, c.len.ensures)))

pub verdicts-requires-clause-boolean : goal.verdicts-requires-clause-boolean
verdicts-requires-clause-boolean c =
    rw c.deref-2.ensures.value
    (asked_boolean _ c.args.model.now _ c.requires.spelled c.requires.only _ c.in_ok-names.ensures (sym c.is_built.ensures ∙ c.if-not-is_built.false) _ c.in_ok-obligations.ensures)

pub verdicts-requires-clause-declared : goal.verdicts-requires-clause-declared
verdicts-requires-clause-declared c =
    rw (c.deref.ensures.value, c.deref-2.ensures.value)
    (asked_declared _ c.args.model.now _ c.requires.spelled c.requires.only _ c.in_ok-names.ensures (sym c.is_built.ensures ∙ c.if-not-is_built.false)
    c.requires.well _ c.in_ok-obligations.ensures)

pub report-requires-clause-within : goal.report-requires-clause-within
report-requires-clause-within c = rw (c.deref-4.ensures.value, c.in_ok-obligations.ensures) c.requires.places

pub report-requires-clause-same : goal.report-requires-clause-same
report-requires-clause-same c =
    let decided = rw (c.deref.ensures.value, c.deref-2.ensures.value) at c.in_ok-verdicts.ensures in
    let es = map (λ e. e.now) c.in_ok-obligations.obligations.items in
    ap length c.deref-4.ensures.value ∙ sym {a = length es} (length-map c.in_ok-obligations.obligations.items (λ e. e.now))
    ∙ as_many (map (λ n. n.now) c.in_ok-names.names.items) es c.in_ok-verdicts.verdicts decided ∙ ap length (sym c.as_slice.ensures)

pub returns-clause-report : goal.returns-clause-report
returns-clause-report c =
    let decided = rw (c.deref.ensures.value, c.deref-2.ensures.value) at c.in_ok-verdicts.ensures in
    let long = length-map c.in_ok-names.names.items (λ n. n.now) in
    let len = c.in_ok-names.names.ok.0 in
    let few : length (map (λ n. n.now) c.in_ok-names.names.items) ≤ 12 = omega (arith, c.len.ensures) in
    let m = c.args.model.now in
    let spelled = c.requires.spelled in
    let only = c.requires.only in
    let are = c.in_ok-names.ensures in
    let built = sym c.is_built.ensures ∙ c.if-not-is_built.false in
    let accepted = accepted_text c.args.text.now m _ spelled only _ are c.if-tokens-gt-MAX_TOKENS.false c.requires.well built few in
    report_of c.args.text.now m _ spelled only _ are accepted _ c.in_ok-verdicts.verdicts c.in_ok-output.output.items c.any_falsified-falsified.result c.in_ok-obligations.ensures decided
    (rw (c.deref-3.ensures.value, c.deref-4.ensures.value, c.as_slice.ensures) at c.in_ok-output.ensures)
    (rw c.as_slice-2.ensures at c.any_falsified-falsified.ensures)
