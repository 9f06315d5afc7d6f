use Rattle.std.proofs.Common.{Bool, List, sym, subst}
use Rattle.evidence.specs.declared.reader_due.Statement.{Statement}
use Rattle.evidence.specs.declared.reader_due.Statement.TheVariants as line
use Rattle.evidence.specs.Judging.{Expects, TakesLineOf}
use Rattle.evidence.proofs.claims.Claims.take.Goals as goal

pub step-requires : goal.step-requires
step-requires c = (c.args.a.now, subst (λ (s : Statement). Expects c.args.a.now c.args.self.now c.args.number s) c.in-Step.is c.requires)

pub returns-in-Step : goal.returns-in-Step
returns-in-Step c = subst (λ (s : Statement). TakesLineOf c.args.a.now c.args.self.now c.args.number s c.step.new.self c.step.result) (sym c.in-Step.is) (c.step.ensures c.args.a.now)

pub returns-in-Log : goal.returns-in-Log
returns-in-Log c = subst (λ (s : Statement). TakesLineOf c.args.a.now c.args.self.now c.args.number s c.log.new.self c.log.result) (sym c.in-Log.is) c.log.ensures

pub returns-in-Row : goal.returns-in-Row
returns-in-Row c = subst (λ (s : Statement). TakesLineOf c.args.a.now c.args.self.now c.args.number s c.row.new.self c.row.result) (sym c.in-Row.is) c.row.ensures

pub returns-in-Model : goal.returns-in-Model
returns-in-Model c =
    subst (λ (s : Statement). TakesLineOf c.args.a.now c.args.self.now c.args.number s c.model.new.self c.model.result) (sym c.in-Model.is)
    (subst (λ (values : List Bool). TakesLineOf c.args.a.now c.args.self.now c.args.number (line.Model values) c.model.new.self c.model.result) c.as_slice.ensures c.model.ensures)

pub returns-in-Entry : goal.returns-in-Entry
returns-in-Entry c = subst (λ (s : Statement). TakesLineOf c.args.a.now c.args.self.now c.args.number s c.entry.new.self c.entry.result) (sym c.in-Entry.is) c.entry.ensures
