use Rattle.std.proofs.Common.{◌++◌, ◌*◌, Some, refl, ap, subst, arith, rules}
use Rattle.lll_text.specs.Spelling.{line}
use Rattle.evidence.specs.declared.reader_due.Due.{Due}
use Rattle.evidence.specs.declared.reader_lines.EqualLine.{EqualLine}
use Rattle.evidence.specs.declared.reader_lines.EqualLine.TheVariants as equal
use Rattle.evidence.specs.Readers.{Reads, EqualLineFits, equal_content}
use Rattle.evidence.specs.declared.reader_progress.Stage.TheVariants as stage
use Rattle.evidence.proofs.ProgressTurns.{at_stage, from_stage, fine_at, due_shown, due_spent, equal_line_there, equal_line_back, no_equal_line, numbers_stay, first_stays}
use Rattle.evidence.proofs.reader_progress.Progress.equal.Goals as goal

pub returns-in-Some-Shown-clause-fine : goal.returns-in-Some-Shown-clause-fine
returns-in-Some-Shown-clause-fine c =
    let p = c.args.self.now in
    let f = fine_at p stage.Equal c.requires.stage c.requires.fine in
    (numbers_stay p _ refl refl f.1, (f.2.0, first_stays p _ f.2.0 refl refl refl refl f.2.1), omega (arith, ap (λ (d : Due). d.number) f.0, f.2.1.few))

pub returns-in-Some-Shown-clause-taken : goal.returns-in-Some-Shown-clause-taken
returns-in-Some-Shown-clause-taken c = λ more.
    let p = c.args.self.now in
    let content = c.args.line.now in
    let f = fine_at p stage.Equal c.requires.stage c.requires.fine in
    let due = due_shown p f.2.0 f.0 f.2.1.obligations in
    let read = subst (λ (x : EqualLine). Reads (EqualLineFits p.parts) (equal_content p.parts) content (Some x)) c.in-Some-Shown.field-0-is c.in-Some-Shown.ensures in (
      λ m. equal_line_there p f content c.requires.within equal.Shown _ more due read (at_stage p stage.Equal (line content ++ more) c.requires.stage m),
      λ r. from_stage p stage.Equal (line content ++ more) c.requires.stage (equal_line_back p f content c.requires.within equal.Shown _ more due read r),
    )

pub returns-in-None-clause-wrong : goal.returns-in-None-clause-wrong
returns-in-None-clause-wrong c =
    let p = c.args.self.now in
    let content = c.args.line.now in
    let f = fine_at p stage.Equal c.requires.stage c.requires.fine in
    (refl, λ more m. no_equal_line p f content c.requires.within more c.in-None.ensures (at_stage p stage.Equal (line content ++ more) c.requires.stage m))

pub returns-in-Some-Shown-clause-adds : goal.returns-in-Some-Shown-clause-adds
returns-in-Some-Shown-clause-adds c =
    let p = c.args.self.now in
    let read = subst (λ (x : EqualLine). Reads (EqualLineFits p.parts) (equal_content p.parts) c.args.line.now (Some x)) c.in-Some-Shown.field-0-is c.in-Some-Shown.ensures in
    record { stage = refl; said = equal.Shown; fits = read.0; content_is = read.1; lines = c.new.ensures }

pub returns-in_ok-self-in-Some-Conflicts-clause-fine : goal.returns-in_ok-self-in-Some-Conflicts-clause-fine
returns-in_ok-self-in-Some-Conflicts-clause-fine c =
    let p = c.args.self.now in
    let f = fine_at p stage.Equal c.requires.stage c.requires.fine in
    (numbers_stay p _ refl refl f.1, (f.2.0, first_stays p _ f.2.0 refl refl refl refl f.2.1), omega (arith, ap (λ (d : Due). d.number) f.0, ap (λ (d : Due). d.entries) f.0))

pub returns-in_ok-self-in-Some-Conflicts-clause-taken : goal.returns-in_ok-self-in-Some-Conflicts-clause-taken
returns-in_ok-self-in-Some-Conflicts-clause-taken c = λ more.
    let p = c.args.self.now in
    let content = c.args.line.now in
    let f = fine_at p stage.Equal c.requires.stage c.requires.fine in
    let said = equal.Conflicts c.in-Some-Conflicts.part c.in-Some-Conflicts.stepping in
    let due = due_spent p f.2.0 c.in-Some-Conflicts.part c.in-Some-Conflicts.stepping f.0 in
    let read = subst (λ (x : EqualLine). Reads (EqualLineFits p.parts) (equal_content p.parts) content (Some x)) c.in-Some-Conflicts.field-0-is c.in-Some-Conflicts.ensures in (
      λ m. equal_line_there p f content c.requires.within said _ more due read (at_stage p stage.Equal (line content ++ more) c.requires.stage m),
      λ r. from_stage p stage.Equal (line content ++ more) c.requires.stage (equal_line_back p f content c.requires.within said _ more due read r),
    )

pub returns-in-Some-Shown-clause-tells : goal.returns-in-Some-Shown-clause-tells
returns-in-Some-Shown-clause-tells c =
    let p = c.args.self.now in
    let f = fine_at p stage.Equal c.requires.stage c.requires.fine in
    let read = subst (λ (x : EqualLine). Reads (EqualLineFits p.parts) (equal_content p.parts) c.args.line.now (Some x)) c.in-Some-Shown.field-0-is c.in-Some-Shown.ensures in
    record {
      was = c.requires.stage;
      now = refl;
      fits = read.0;
      content_is = read.1;
      due = ap (λ (d : Due). record d { logs = 2 * p.parts; entries = p.obligations }) f.0;
      lines = c.new.ensures;
      depth = refl;
      conflicts = refl;
      first = refl;
      bounds = refl;
      parts_are = refl;
      obligations = refl;
    }

pub returns-in_ok-self-in-Some-Conflicts-clause-tells : goal.returns-in_ok-self-in-Some-Conflicts-clause-tells
returns-in_ok-self-in-Some-Conflicts-clause-tells c =
    let p = c.args.self.now in
    let f = fine_at p stage.Equal c.requires.stage c.requires.fine in
    let read = subst (λ (x : EqualLine). Reads (EqualLineFits p.parts) (equal_content p.parts) c.args.line.now (Some x)) c.in-Some-Conflicts.field-0-is c.in-Some-Conflicts.ensures in
    record {
      was = c.requires.stage;
      now = refl;
      fits = read.0;
      content_is = read.1;
      due = ap (λ (d : Due). record d { logs = 1 }) f.0;
      lines = search rules;
      depth = refl;
      conflicts = refl;
      first = refl;
      bounds = refl;
      parts_are = refl;
      obligations = refl;
    }
