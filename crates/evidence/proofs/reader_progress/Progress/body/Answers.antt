use Rattle.std.proofs.Common.{◌++◌, refl, subst, arith}
use Rattle.std.specs.Prelude.{Option}
use Rattle.lll_text.specs.Spelling.{line}
use Rattle.evidence.specs.declared.reader_due.Statement.{Statement}
use Rattle.evidence.specs.declared.reader_progress.Stage.TheVariants as stage
use Rattle.evidence.specs.Due.{IsDue, line_content}
use Rattle.evidence.specs.Readers.{Reads}
use Rattle.evidence.proofs.ProgressTurns.{at_stage, fine_at, no_body_line, body_takes, body_stays_fine}
use Rattle.evidence.proofs.reader_progress.Progress.body.Goals as goal

pub read_line-requires-clause-number : goal.read_line-requires-clause-number
read_line-requires-clause-number c = let f = fine_at c.args.self.now stage.Body c.requires.stage c.requires.fine in omega (arith, f.2)

pub advance-requires-clause-number : goal.advance-requires-clause-number
advance-requires-clause-number c = let f = fine_at c.args.self.now stage.Body c.requires.stage c.requires.fine in omega (arith, f.2)

pub returns-in-None-clause-wrong : goal.returns-in-None-clause-wrong
returns-in-None-clause-wrong c =
    let p = c.args.self.now in
    let content = c.args.line.now in
    let f = fine_at p stage.Body c.requires.stage c.requires.fine in
    (refl, λ more m. no_body_line p f content c.requires.within more (rw c.in-None.is at c.in_ok-statement.ensures) (at_stage p stage.Body (line content ++ more) c.requires.stage m))

pub returns-in_ok-advance-in-Some-clause-fine : goal.returns-in_ok-advance-in-Some-clause-fine
returns-in_ok-advance-in-Some-clause-fine c =
    let p = c.args.self.now in
    let said = subst (λ (o : Option Statement). Reads (IsDue p.bounds p.due) (line_content p.due.number) c.args.line.now o) c.in-Some.is c.in_ok-statement.ensures in
    body_stays_fine p c.advance.new.self c.in-Some.statement c.requires.stage c.requires.fine said.0 c.in_ok-advance-in-Some.ensures.to

pub returns-in_ok-advance-in-Some-clause-taken : goal.returns-in_ok-advance-in-Some-clause-taken
returns-in_ok-advance-in-Some-clause-taken c =
    let p = c.args.self.now in
    let said = subst (λ (o : Option Statement). Reads (IsDue p.bounds p.due) (line_content p.due.number) c.args.line.now o) c.in-Some.is c.in_ok-statement.ensures in
    body_takes p c.advance.new.self c.args.line.now c.in-Some.statement c.requires.stage c.requires.fine c.requires.within said.0 said.1 c.in_ok-advance-in-Some.ensures.to
