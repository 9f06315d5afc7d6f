use Rattle.std.proofs.Common.{◌++◌, [], ◌∷◌, ap, ◌∙◌}
use Rattle.std.specs.Prelude.{decimal}
use Rattle.trace_text.proofs.TextFronts.{match_second}
use Rattle.trace_text.proofs.reading.after_instant.Goals as goal

pub returns : goal.returns
returns c =
    match_second (decimal c.args.instant) (58 ∷ []) c.in_ok-rest.rest.now c.args.text.now c.after-2.result
    (c.in_ok-rest.ensures ∙ ap (λ t. t ++ c.in_ok-rest.rest.now) (c.as_bytes.ensures.value ∙ c.format.ensures.text))
    c.after-2.ensures
