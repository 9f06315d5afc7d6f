use Rattle.std.proofs.Common.{◌<◌, ◌^◌, ◌-◌, min, sym, ap, ◌∙◌, arith}
use Rattle.trace_text.specs.Parts.{digits_value, is_numeral}
use Rattle.trace_text.proofs.NumberFronts.{number_found, number_only}
use Rattle.trace_text.proofs.words.number_at.Goals as goal

pub returns-then-not-is_numeral : goal.returns-then-not-is_numeral
returns-then-not-is_numeral c = λ n lt after stands.
    let q = number_only c.args.text.now after c.digits_length.result n c.digits_length.ensures.count lt stands in
    absurd (cc (sym q.1 ∙ ap is_numeral (sym c.split_at.ensures.front) ∙ sym c.if-not-is_numeral.ensures))

pub returns-in-Err : goal.returns-in-Err
returns-in-Err c = λ n lt after stands.
    let h = c.in-Err.ensures in
    let q = number_only c.args.text.now after c.digits_length.result n c.digits_length.ensures.count lt stands in
    let worth = c.worth.ensures ∙ ap (λ t. min (digits_value t) (2 ^ 128 - 1)) c.split_at.ensures.front ∙ ap (λ v. min v (2 ^ 128 - 1)) q.2 in
    h (omega (arith, worth, lt))

pub returns-in-Ok : goal.returns-in-Ok
returns-in-Ok c =
    let h = c.in-Ok.ensures in
    let lt : c.in-Ok.value < 2 ^ 64 = omega (arith, h.0, h.1) in (
      lt,
      number_found c.args.text.now c.split_at.result.0.now c.split_at.result.1.now c.digits_length.result c.in-Ok.value c.digits_length.ensures.count c.split_at.ensures.front c.split_at.ensures.back
          (sym c.if-not-is_numeral.ensures) (sym (h.1 ∙ c.worth.ensures)) lt,
    )
