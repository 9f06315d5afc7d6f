use Rattle.std.proofs.Common.{subst, sym}
use Rattle.std.specs.Prelude.{Option}
use Rattle.evidence.specs.declared.claims_judged.Judged.{Judged}
use Rattle.evidence.specs.Telling.{HasAllRead, AnswersAll}
use Rattle.evidence.proofs.Fed.{all_judged, all_read}
use Rattle.evidence.proofs.reader_feed.Feed.end.Goals as goal

pub answer-requires : goal.answer-requires
answer-requires c =
    let f = c.args.self in
    let s = c.requires.stands in
    let e = c.in-Ok.ensures.ended in
    subst (λ (o : Option Judged). HasAllRead o) (sym e.judged) (all_judged f s.0 (s.1 e.alive) e.few e.form e.ended e.nothing)

pub returns-in-Ok-clause-answers : goal.returns-in-Ok-clause-answers
returns-in-Ok-clause-answers c = λ bytes s.
    let f = c.args.self in
    let e = c.in-Ok.ensures.ended in
    all_read f bytes _ c.answer.result (s e.alive) e.few e.form e.ended e.nothing e.lines (subst (λ (o : Option Judged). AnswersAll o c.finish.new.self.progress.lines c.answer.result) e.judged c.answer.ensures)

pub returns-in-Err-clause-answers : goal.returns-in-Err-clause-answers
returns-in-Err-clause-answers c = c.in-Err.ensures.wrong
