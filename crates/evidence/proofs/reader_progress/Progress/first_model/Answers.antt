use Rattle.std.proofs.Common.{ℕ, ◌++◌, ◌+◌, ◌*◌, Some, length, refl, sym, ap, subst, ◌∙◌, inr, arith}
use Rattle.std.specs.Prelude.{List, Option}
use Rattle.lll_core.specs.declared.lll.Lll.{Lll}
use Rattle.lll_core.specs.declared.signal.Signal.{Signal}
use Rattle.lll_core.specs.Tables.{input_count}
use Rattle.lll_text.specs.Spelling.{line}
use Rattle.evidence.specs.declared.reader_progress.Progress.{Progress}
use Rattle.evidence.specs.declared.reader_progress.Stage.TheVariants as stage
use Rattle.evidence.specs.Standing.{ReadsModelLine}
use Rattle.evidence.specs.Telling.{IsUnjudged}
use Rattle.evidence.proofs.Headings.{model_line_there, model_line_back}
use Rattle.evidence.proofs.Models.{first_model_there, first_model_back}
use Rattle.evidence.proofs.ProgressTurns.{at_stage, from_stage, fine_at}
use Rattle.evidence.proofs.reader_progress.Progress.first_model.Goals as goal

pub returns-in-Some-clause-fine : goal.returns-in-Some-clause-fine
returns-in-Some-clause-fine c =
    let p = c.args.self.now in
    let f = fine_at p stage.FirstModel c.requires.stage c.requires.fine in (
      f.0,
      record { some_depth = f.1.some_depth; depth_bound = f.1.depth_bound; some_conflicts = f.1.some_conflicts; conflicts_bound = f.1.conflicts_bound },
      (
        c.in-Some.model,
        record {
          is = refl;
          depth = refl;
          inputs = c.input_count.ensures ∙ ap (λ (s : List Signal). input_count s) c.as_slice.ensures;
          variables = ap (λ (s : List Signal). (p.depth + 1) * length s) c.as_slice-in-Some.ensures;
          obligations = ap (λ (s : List ℕ). length s) c.as_slice-in-Some-2.ensures;
          few = omega (arith, c.as_slice-in-Some-2.type_inv);
        },
      ),
    )

pub returns-in-Some-clause-taken : goal.returns-in-Some-clause-taken
returns-in-Some-clause-taken c =
    let p = c.args.self.now in
    let content = c.args.line.now in
    let model = c.in-Some.model in
    let spelled = subst (λ (o : Option Lll). ReadsModelLine p.text.items content c.model_line.new.text.items o) c.in-Some.is c.in_ok-model.ensures.read in
    let q : Progress = record p {
      stage = stage.SecondHeading;
      text = c.model_line.new.text;
      first = Some model;
      bounds = record { depth = p.depth; inputs = c.input_count.result; variables = (p.depth + 1) * length c.as_slice-in-Some.result.now };
      obligations = length c.as_slice-in-Some-2.result.now;
    } in
    λ more. (
      λ m. first_model_there p q content more c.requires.within model refl refl refl spelled (at_stage p stage.FirstModel (line content ++ more) c.requires.stage m),
      λ g. from_stage p stage.FirstModel (line content ++ more) c.requires.stage (first_model_back p q content more c.requires.within model refl refl refl spelled g),
    )

pub returns-in-None-clause-taken : goal.returns-in-None-clause-taken
returns-in-None-clause-taken c =
    let p = c.args.self.now in
    let content = c.args.line.now in
    let longer = (subst (λ (o : Option Lll). ReadsModelLine p.text.items content c.model_line.new.text.items o) c.in-None.is c.in_ok-model.ensures.read).0 in
    let q : Progress = record p { text = c.model_line.new.text } in
    λ more. (
      λ m. from_stage q stage.FirstModel more c.requires.stage (model_line_there p q content more c.requires.within refl refl longer (at_stage p stage.FirstModel (line content ++ more) c.requires.stage m)),
      λ g. from_stage p stage.FirstModel (line content ++ more) c.requires.stage (model_line_back p q content more c.requires.within refl refl longer (at_stage q stage.FirstModel more c.requires.stage g)),
    )

pub returns-in-Some-clause-adds : goal.returns-in-Some-clause-adds
returns-in-Some-clause-adds c =
    let spelled = subst (λ (o : Option Lll). ReadsModelLine c.args.self.now.text.items c.args.line.now c.model_line.new.text.items o) c.in-Some.is c.in_ok-model.ensures.read in
    record { depth = refl; conflicts = refl; by = inr (refl, (c.in-Some.model, refl, spelled)) }

pub returns-in-None-clause-tells : goal.returns-in-None-clause-tells
returns-in-None-clause-tells c = subst IsUnjudged (sym c.requires.stage) tt
