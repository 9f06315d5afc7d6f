use Rattle.std.proofs.Common.{◌++◌, refl, sym, ap, ◌∙◌}
use Rattle.std.proofs.lemmas.List.{append-nil}
use Rattle.evidence.specs.declared.reader_due.Statement.{Statement}
use Rattle.evidence.specs.Standing.{stage_after}
use Rattle.evidence.specs.Summaries.{lines_said}
use Rattle.evidence.proofs.reader_progress.Progress.advance.Goals as goal

pub returns-in-Step-clause-to : goal.returns-in-Step-clause-to
returns-in-Step-clause-to c = record {
  stage = c.requires.stage ∙ sym (ap stage_after c.in-Step.is);
  due = c.after_line-self.ensures;
  bounds = refl;
  first = refl;
  depth = refl;
  conflicts = refl;
  obligations = refl;
  lines = sym (append-nil c.args.self.now.lines) ∙ ap (λ (s : Statement). c.args.self.now.lines ++ lines_said s) (sym c.in-Step.is);
}

pub returns-in-Log-clause-to : goal.returns-in-Log-clause-to
returns-in-Log-clause-to c = record {
  stage = c.requires.stage ∙ sym (ap stage_after c.in-Log.is);
  due = c.after_line-self.ensures;
  bounds = refl;
  first = refl;
  depth = refl;
  conflicts = refl;
  obligations = refl;
  lines = sym (append-nil c.args.self.now.lines) ∙ ap (λ (s : Statement). c.args.self.now.lines ++ lines_said s) (sym c.in-Log.is);
}

pub returns-in-Row-clause-to : goal.returns-in-Row-clause-to
returns-in-Row-clause-to c = record {
  stage = c.requires.stage ∙ sym (ap stage_after c.in-Row.is);
  due = c.after_line-self.ensures;
  bounds = refl;
  first = refl;
  depth = refl;
  conflicts = refl;
  obligations = refl;
  lines = sym (append-nil c.args.self.now.lines) ∙ ap (λ (s : Statement). c.args.self.now.lines ++ lines_said s) (sym c.in-Row.is);
}

pub returns-in-Model-clause-to : goal.returns-in-Model-clause-to
returns-in-Model-clause-to c = record {
  stage = c.requires.stage ∙ sym (ap stage_after c.in-Model.is);
  due = c.after_line-self.ensures;
  bounds = refl;
  first = refl;
  depth = refl;
  conflicts = refl;
  obligations = refl;
  lines = sym (append-nil c.args.self.now.lines) ∙ ap (λ (s : Statement). c.args.self.now.lines ++ lines_said s) (sym c.in-Model.is);
}

pub returns-in-End-clause-to : goal.returns-in-End-clause-to
returns-in-End-clause-to c = record {
  stage = sym (ap stage_after c.in-End.is);
  due = c.after_line-self.ensures;
  bounds = refl;
  first = refl;
  depth = refl;
  conflicts = refl;
  obligations = refl;
  lines = sym (append-nil c.args.self.now.lines) ∙ ap (λ (s : Statement). c.args.self.now.lines ++ lines_said s) (sym c.in-End.is);
}
