use Rattle.std.proofs.Common.{Err, refl, ap, ◌∙◌}
use Rattle.evidence.proofs.TellTurns.{followed, yes, no}
use Rattle.evidence.proofs.reader_judging.answer.Goals as goal

pub judge_end-requires : goal.judge_end-requires
judge_end-requires c = followed c.args.judged c.in-Some.judged c.in-Some.is c.requires

pub returns-in-Ok : goal.returns-in-Ok
returns-in-Ok c = yes c.args.judged c.in-Some.judged c.args.lines c.judge_end.result _ c.in-Some.is c.judge_end.ensures.judged c.in-Ok.is (record { lines = c.args.lines }) refl

pub returns-in-Err-Refused : goal.returns-in-Err-Refused
returns-in-Err-Refused c =
    let done = no c.args.judged c.in-Some.judged c.args.lines c.judge_end.result c.in-Err-Refused.line c.in-Err-Refused.cause c.in-Some.is c.judge_end.ensures.judged (c.in-Err-Refused.is ∙ ap (λ e. Err e) c.in-Err-Refused.field-0-is) in
    let a = c.in-Err-Refused.line-is in let b = c.in-Err-Refused.cause-is in rw c.in-Err-Refused.field-0-is done
