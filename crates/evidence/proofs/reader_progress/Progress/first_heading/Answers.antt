use Rattle.std.proofs.Common.{◌≡◌, ◌++◌, refl, rules}
use Rattle.std.specs.Prelude.{codes}
use Rattle.lll_text.specs.Spelling.{line}
use Rattle.evidence.specs.declared.reader_progress.Progress.{Progress}
use Rattle.evidence.specs.declared.reader_progress.Stage.TheVariants as stage
use Rattle.evidence.proofs.Headings.{first_heading_there, first_heading_back, no_first_heading}
use Rattle.evidence.proofs.ProgressTurns.{at_stage, from_stage}
use Rattle.evidence.proofs.reader_progress.Progress.first_heading.Goals as goal

pub returns-then-ne-clause-wrong : goal.returns-then-ne-clause-wrong
returns-then-ne-clause-wrong c =
    let p = c.args.self.now in
    let content = c.args.line.now in
    let other : content ≡ codes "text a" → ⊥ = search rules in
    (refl, λ more m. no_first_heading p p content more c.requires.within other (at_stage p stage.FirstHeading (line content ++ more) c.requires.stage m))

pub returns-clause-taken : goal.returns-clause-taken
returns-clause-taken c =
    let p = c.args.self.now in
    let content = c.args.line.now in
    let same : content ≡ codes "text a" = search rules in
    let q : Progress = record p { stage = stage.FirstModel; heading = c.args.number; text = c.clear.new.self } in
    λ more. (
      λ m. first_heading_there p q content more c.requires.within same refl refl c.clear.ensures.items (at_stage p stage.FirstHeading (line content ++ more) c.requires.stage m),
      λ g. from_stage p stage.FirstHeading (line content ++ more) c.requires.stage (first_heading_back p q content more c.requires.within same refl refl c.clear.ensures.items g),
    )
