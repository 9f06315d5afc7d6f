use Rattle.std.proofs.Common.{◌≡◌, ◌++◌, List, ℕ, sym, subst, ◌∙◌, inl, inr}
use Rattle.evidence.specs.Standing.{IsWrongText}
use Rattle.evidence.proofs.reader_progress.Progress.unended.Goals as goal
use Rattle.evidence.proofs.reader_progress.Progress.unended.Goals.{in-Ok, in-Err}

pub returns-clause-early : goal.returns-clause-early
returns-clause-early c =
    let p = c.args.self.now in
    let whole : c.deref.result.now ≡ p.text.items ++ c.args.rest.now = c.deref.ensures.value ∙ c.in_ok-extend_from_slice.ensures.items in
    elim c.match-read_model.branch [
      | in-Ok w ↦ rw w.result-is (inr (w.in-Ok.field-0, sym whole ∙ w.in-Ok.ensures.read))
      | in-Err w ↦ rw w.result-is (inl (subst (λ (b : List ℕ). IsWrongText p.heading b w.in-Err.why) whole w.in-Err.ensures.wrong))
    ]
