use Rattle.std.proofs.Common.{◌++◌, Some, refl, sym, subst, inr}
use Rattle.std.specs.Prelude.{Option}
use Rattle.lll_core.specs.declared.lll.Lll.{Lll}
use Rattle.lll_text.specs.Spelling.{line}
use Rattle.evidence.specs.declared.reader_progress.Progress.{Progress}
use Rattle.evidence.specs.declared.reader_progress.Stage.TheVariants as stage
use Rattle.evidence.specs.Standing.{IsFine, ReadsModelLine}
use Rattle.evidence.specs.Telling.{IsUnjudged}
use Rattle.evidence.proofs.Models.{second_line_there, second_line_back, second_model_there, second_model_back}
use Rattle.evidence.proofs.ProgressTurns.{at_stage, from_stage, fine_at, numbers_stay, first_stays}
use Rattle.evidence.proofs.reader_progress.Progress.second_model.Goals as goal

pub returns-in-Some-clause-fine : goal.returns-in-Some-clause-fine
returns-in-Some-clause-fine c =
    let p = c.args.self.now in
    let f = fine_at p stage.SecondModel c.requires.stage c.requires.fine in
    let q : Progress = record p { stage = stage.Equal; text = c.model_line.new.text; second = Some c.in-Some.model; parts = c.part_count-self.result } in (
      f.0,
      numbers_stay p q refl refl f.1,
      (f.2.0, first_stays p q f.2.0 refl refl refl refl f.2.1),
      (c.in-Some.model, record { is = refl; parts = c.part_count-self.ensures.count; few = c.part_count-self.ensures.few }),
    )

pub returns-in-Some-clause-taken : goal.returns-in-Some-clause-taken
returns-in-Some-clause-taken c =
    let p = c.args.self.now in
    let content = c.args.line.now in
    let model = c.in-Some.model in
    let spelled = subst (λ (o : Option Lll). ReadsModelLine p.text.items content c.model_line.new.text.items o) c.in-Some.is c.in_ok-model.ensures.read in
    let q : Progress = record p { stage = stage.Equal; text = c.model_line.new.text; second = Some model; parts = c.part_count-self.result } in
    λ more. (
      λ m. second_model_there p q content more c.requires.within model refl refl refl refl spelled (at_stage p stage.SecondModel (line content ++ more) c.requires.stage m),
      λ g. from_stage p stage.SecondModel (line content ++ more) c.requires.stage (second_model_back p q content more c.requires.within model refl refl refl refl spelled g),
    )

pub returns-in-None-clause-fine : goal.returns-in-None-clause-fine
returns-in-None-clause-fine c =
    let p = c.args.self.now in
    let f = fine_at p stage.SecondModel c.requires.stage c.requires.fine in
    let q : Progress = record p { text = c.model_line.new.text } in
    let fine : IsFine stage.SecondModel q = (f.0, numbers_stay p q refl refl f.1, (f.2.0, first_stays p q f.2.0 refl refl refl refl f.2.1)) in
    subst (λ s. IsFine s q) (sym c.requires.stage) fine

pub returns-in-None-clause-taken : goal.returns-in-None-clause-taken
returns-in-None-clause-taken c =
    let p = c.args.self.now in
    let content = c.args.line.now in
    let longer = (subst (λ (o : Option Lll). ReadsModelLine p.text.items content c.model_line.new.text.items o) c.in-None.is c.in_ok-model.ensures.read).0 in
    let q : Progress = record p { text = c.model_line.new.text } in
    λ more. (
      λ m. from_stage q stage.SecondModel more c.requires.stage (second_line_there p q content more c.requires.within refl refl refl longer (at_stage p stage.SecondModel (line content ++ more) c.requires.stage m)),
      λ g. from_stage p stage.SecondModel (line content ++ more) c.requires.stage (second_line_back p q content more c.requires.within refl refl refl longer (at_stage q stage.SecondModel more c.requires.stage g)),
    )

pub returns-in-Some-clause-adds : goal.returns-in-Some-clause-adds
returns-in-Some-clause-adds c =
    let spelled = subst (λ (o : Option Lll). ReadsModelLine c.args.self.now.text.items c.args.line.now c.model_line.new.text.items o) c.in-Some.is c.in_ok-model.ensures.read in
    record { depth = refl; conflicts = refl; by = inr (refl, (c.in-Some.model, refl, spelled)) }

pub returns-in-None-clause-tells : goal.returns-in-None-clause-tells
returns-in-None-clause-tells c = subst IsUnjudged (sym c.requires.stage) tt

pub returns-in-Some-clause-tells : goal.returns-in-Some-clause-tells
returns-in-Some-clause-tells c =
    let spelled = subst (λ (o : Option Lll). ReadsModelLine c.args.self.now.text.items c.args.line.now c.model_line.new.text.items o) c.in-Some.is c.in_ok-model.ensures.read in
    record { was = c.requires.stage; now = refl; model = c.in-Some.model; second = refl; ends = spelled; heading = refl; depth = refl; conflicts = refl; first = refl }
