use Rattle.std.proofs.Common.{◌≡◌, ◌++◌, refl, rules}
use Rattle.std.specs.Prelude.{codes}
use Rattle.lll_text.specs.Spelling.{line}
use Rattle.evidence.specs.declared.reader_progress.Stage.TheVariants as stage
use Rattle.evidence.proofs.Headings.{header_there, header_back, no_header}
use Rattle.evidence.proofs.ProgressTurns.{at_stage, from_stage}
use Rattle.evidence.proofs.reader_progress.Progress.header.Goals as goal

pub returns-then-ne-clause-wrong : goal.returns-then-ne-clause-wrong
returns-then-ne-clause-wrong c =
    let p = c.args.self.now in
    let content = c.args.line.now in
    let other : content ≡ codes "hll-evidence 1" → ⊥ = search rules in
    (refl, λ more m. no_header p p content more c.requires.within other (at_stage p stage.Header (line content ++ more) c.requires.stage m))

pub returns-clause-taken : goal.returns-clause-taken
returns-clause-taken c =
    let p = c.args.self.now in
    let content = c.args.line.now in
    let same : content ≡ codes "hll-evidence 1" = search rules in
    λ more. (
      λ m. header_there p _ content more c.requires.within same (at_stage p stage.Header (line content ++ more) c.requires.stage m),
      λ g. from_stage p stage.Header (line content ++ more) c.requires.stage (header_back p _ content more c.requires.within same g),
    )
