use Rattle.std.proofs.Common.{◌++◌, refl}
use Rattle.lll_text.specs.Spelling.{line}
use Rattle.evidence.specs.declared.reader_progress.Stage.TheVariants as stage
use Rattle.evidence.proofs.Headings.{depth_there, depth_back, no_depth}
use Rattle.evidence.proofs.ProgressTurns.{at_stage, from_stage}
use Rattle.evidence.proofs.reader_progress.Progress.depth.Goals as goal

pub returns-in-Some-clause-taken : goal.returns-in-Some-clause-taken
returns-in-Some-clause-taken c = λ more.
    let p = c.args.self.now in
    let content = c.args.line.now in (
      λ m. depth_there p _ content more c.requires.within c.in-Some.depth refl c.in-Some.ensures (at_stage p stage.Depth (line content ++ more) c.requires.stage m),
      λ g. from_stage p stage.Depth (line content ++ more) c.requires.stage (depth_back p _ content more c.requires.within c.in-Some.depth refl c.in-Some.ensures g),
    )

pub returns-in-None-clause-wrong : goal.returns-in-None-clause-wrong
returns-in-None-clause-wrong c =
    let p = c.args.self.now in
    let content = c.args.line.now in
    (refl, λ more m. no_depth p p content more c.requires.within c.in-None.ensures (at_stage p stage.Depth (line content ++ more) c.requires.stage m))
