use Rattle.std.proofs.Common.{◌≡◌, ◌++◌, refl, rules}
use Rattle.std.specs.Prelude.{codes}
use Rattle.lll_text.specs.Spelling.{line}
use Rattle.evidence.specs.declared.reader_progress.Progress.{Progress}
use Rattle.evidence.specs.declared.reader_progress.Stage.TheVariants as stage
use Rattle.evidence.proofs.Models.{second_heading_there, second_heading_back, no_second_heading}
use Rattle.evidence.proofs.ProgressTurns.{at_stage, from_stage, fine_at, numbers_stay, first_stays}
use Rattle.evidence.proofs.reader_progress.Progress.second_heading.Goals as goal

pub returns-then-ne-clause-wrong : goal.returns-then-ne-clause-wrong
returns-then-ne-clause-wrong c =
    let p = c.args.self.now in
    let content = c.args.line.now in
    let other : content ≡ codes "text b" → ⊥ = search rules in
    (refl, λ more m. no_second_heading p p content more c.requires.within other (at_stage p stage.SecondHeading (line content ++ more) c.requires.stage m))

pub returns-clause-fine : goal.returns-clause-fine
returns-clause-fine c =
    let p = c.args.self.now in
    let q : Progress = record p { stage = stage.SecondModel; heading = c.args.number; text = c.clear.new.self } in
    let f = fine_at p stage.SecondHeading c.requires.stage c.requires.fine in
    (f.0, numbers_stay p q refl refl f.1, (f.2.0, first_stays p q f.2.0 refl refl refl refl f.2.1))

pub returns-clause-taken : goal.returns-clause-taken
returns-clause-taken c =
    let p = c.args.self.now in
    let content = c.args.line.now in
    let same : content ≡ codes "text b" = search rules in
    let q : Progress = record p { stage = stage.SecondModel; heading = c.args.number; text = c.clear.new.self } in
    λ more. (
      λ m. second_heading_there p q content more c.requires.within same refl refl refl c.clear.ensures.items (at_stage p stage.SecondHeading (line content ++ more) c.requires.stage m),
      λ g. from_stage p stage.SecondHeading (line content ++ more) c.requires.stage (second_heading_back p q content more c.requires.within same refl refl refl c.clear.ensures.items g),
    )
