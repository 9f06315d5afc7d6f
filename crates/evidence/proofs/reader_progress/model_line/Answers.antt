use Rattle.std.proofs.Common.{◌≡◌, List, ℕ, ◌++◌, ap, ◌∙◌, append_assoc, rules}
use Rattle.std.specs.Prelude.{codes}
use Rattle.lll_text.specs.Spelling.{line}
use Rattle.evidence.proofs.ProgressTurns.{wrong_model}
use Rattle.evidence.proofs.reader_progress.model_line.Goals as goal

pub returns-in-Err-clause-wrong : goal.returns-in-Err-clause-wrong
returns-in-Err-clause-wrong c =
    let last : c.args.line.now ≡ codes "end" = search rules in
    let whole : c.deref.result.now ≡ c.args.text.now.items ++ line c.args.line.now =
    c.deref.ensures.value ∙ c.in_ok-push.ensures.items ∙ ap (λ (t : List ℕ). t ++ codes "\n") c.in_ok-extend_from_slice.ensures.items ∙ append_assoc c.args.text.now.items c.args.line.now (codes "\n") in
    wrong_model c.args.heading c.args.text.now.items c.args.line.now c.deref.result.now c.in-Err.why last whole c.in-Err.ensures.wrong
