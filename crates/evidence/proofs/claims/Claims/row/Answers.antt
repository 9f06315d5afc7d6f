use Rattle.std.proofs.Common.{◌∙◌, Bool, List, subst}
use Rattle.evidence.specs.declared.fault.Cause.TheVariants as cause
use Rattle.evidence.specs.Claims.{IsAlone}
use Rattle.evidence.specs.Judging.{RowsHold}
use Rattle.evidence.proofs.RowMethods.{row_in_parts, row_obligation, row_inputs, row_fits, row_turn}
use Rattle.evidence.proofs.claims.Claims.row.Goals as goal

pub judge_rows-requires-clause-obligation : goal.judge_rows-requires-clause-obligation
judge_rows-requires-clause-obligation c = row_obligation c.args.a.now c.args.self.now c.args.number c.args.row c.requires c.in-Entry.p c.in-Entry.verdict c.in-Entry.closed c.in-Entry.is

pub judge_rows-requires-clause-inputs : goal.judge_rows-requires-clause-inputs
judge_rows-requires-clause-inputs c =
    row_inputs c.args.a.now c.args.self.now c.args.number c.args.row c.requires c.in-Entry.p c.in-Entry.verdict c.in-Entry.closed c.in-Entry.is c.as_slice.result.now (c.as_slice.ensures ∙ c.in_ok-push.ensures.ok)

pub judge_rows-requires-clause-fits : goal.judge_rows-requires-clause-fits
judge_rows-requires-clause-fits c =
    row_fits c.args.a.now c.args.self.now c.args.number c.args.row c.requires c.in-Entry.p c.in-Entry.verdict c.in-Entry.closed c.in-Entry.is c.as_slice.result.now (c.as_slice.ensures ∙ c.in_ok-push.ensures.ok)

pub returns-in-Entry : goal.returns-in-Entry
returns-in-Entry c = λ x.
    row_turn c.args.a.now c.args.self.now c.args.number c.args.row x c.in-Entry.p c.in-Entry.verdict c.in-Entry.closed c.in-Entry.is c.first_row-self.result c.push.new.self c.judge_rows.result c.in_ok-push.ensures.ok c.first_row-self.ensures
    (subst (λ (rows : List (List Bool)). IsAlone (RowsHold c.args.a.now c.in-Entry.p c.in-Entry.verdict rows) c.first_row-self.result cause.Trace c.judge_rows.result) c.as_slice.ensures c.judge_rows.ensures)

pub returns-in-Parts : goal.returns-in-Parts
returns-in-Parts c = λ x. row_in_parts c.args.a.now c.args.self.now c.args.number c.args.row x c.in-Parts.said c.in-Parts.closed _ c.in-Parts.is
