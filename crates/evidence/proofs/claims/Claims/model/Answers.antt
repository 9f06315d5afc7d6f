use Rattle.evidence.proofs.RowMethods.{model_in_parts, model_obligation, model_small, model_turn}
use Rattle.evidence.proofs.claims.Claims.model.Goals as goal

pub judge_values-requires-clause-obligation : goal.judge_values-requires-clause-obligation
judge_values-requires-clause-obligation c = model_obligation c.args.a.now c.args.self.now c.args.number c.args.values.now c.requires c.in-Entry.p c.in-Entry.verdict c.in-Entry.closed c.in-Entry.is

pub judge_values-requires-clause-size : goal.judge_values-requires-clause-size
judge_values-requires-clause-size c = model_small c.args.a.now c.args.self.now c.args.number c.args.values.now c.requires c.in-Entry.p c.in-Entry.verdict c.in-Entry.closed c.in-Entry.is

pub returns-in-Entry : goal.returns-in-Entry
returns-in-Entry c = λ x. model_turn c.args.a.now c.args.self.now c.args.number c.args.values.now x c.in-Entry.p c.in-Entry.verdict c.in-Entry.closed c.in-Entry.is c.judge_values.result c.judge_values.ensures

pub returns-in-Parts : goal.returns-in-Parts
returns-in-Parts c = λ x. model_in_parts c.args.a.now c.args.self.now c.args.number c.args.values.now x c.in-Parts.said c.in-Parts.closed _ c.in-Parts.is
