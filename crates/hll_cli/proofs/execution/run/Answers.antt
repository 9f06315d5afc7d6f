use Rattle.command_line.specs.Words.{Prove, Check, Format}
use Rattle.hll_cli.specs.declared.answer.Status.TheVariants as status
use Rattle.hll_cli.proofs.Completeness.{known, words, told_at, told_decided, told_summarized, told_printed, told_unread, unread_cause}
use Rattle.hll_cli.proofs.execution.run.Goals as goal

pub returns-clause-known : goal.returns-clause-known
returns-clause-known g c = known _ _ _ _ c.code.ensures c.execute.ensures.answered

pub returns-clause-answered : goal.returns-clause-answered
returns-clause-answered g c = (_, c.code.ensures, c.execute.ensures.answered)

pub returns-clause-words : goal.returns-clause-words
returns-clause-words g c = λ four. words _ _ _ _ c.code.ensures c.execute.ensures.answered four

pub returns-clause-proved : goal.returns-clause-proved
returns-clause-proved g c = λ name asked number. told_at _ _ _ _ (Prove name) _ status.Done _ asked c.code.ensures number c.execute.ensures.ends

pub returns-clause-falsified : goal.returns-clause-falsified
returns-clause-falsified g c = λ name asked number. told_at _ _ _ _ (Prove name) _ status.Falsified _ asked c.code.ensures number c.execute.ensures.ends

pub returns-clause-refused : goal.returns-clause-refused
returns-clause-refused g c = λ name asked number. told_at _ _ _ _ (Prove name) _ status.Refused _ asked c.code.ensures number c.execute.ensures.ends

pub returns-clause-complete : goal.returns-clause-complete
returns-clause-complete g c = λ name asked. told_decided _ _ _ _ _ _ name _ _ _ asked c.code.ensures c.execute.ensures.answered c.execute.ensures.unwritten

pub returns-clause-formatted : goal.returns-clause-formatted
returns-clause-formatted g c = λ name asked number. told_at _ _ _ _ (Format name) _ status.Done _ asked c.code.ensures number c.execute.ensures.ends

pub returns-clause-misspelled : goal.returns-clause-misspelled
returns-clause-misspelled g c = λ name asked number. told_at _ _ _ _ (Format name) _ status.Refused _ asked c.code.ensures number c.execute.ensures.ends

pub returns-clause-format_complete : goal.returns-clause-format_complete
returns-clause-format_complete g c = λ name asked. told_printed _ _ _ _ _ _ name _ _ _ asked c.code.ensures c.execute.ensures.answered c.execute.ensures.unwritten

pub returns-clause-unread : goal.returns-clause-unread
returns-clause-unread g c = λ r asked number. told_unread _ _ _ _ r _ _ asked c.code.ensures number c.execute.ensures.ends

pub returns-clause-unread_cause : goal.returns-clause-unread_cause
returns-clause-unread_cause g c = λ r asked number. unread_cause _ _ r _ _ asked c.code.ensures number c.execute.ensures.answered

pub returns-clause-checked_proved : goal.returns-clause-checked_proved
returns-clause-checked_proved g c = λ name asked number. told_at _ _ _ _ (Check name) _ status.Done _ asked c.code.ensures number c.execute.ensures.ends

pub returns-clause-checked_falsified : goal.returns-clause-checked_falsified
returns-clause-checked_falsified g c = λ name asked number. told_at _ _ _ _ (Check name) _ status.Falsified _ asked c.code.ensures number c.execute.ensures.ends

pub returns-clause-checked_undecided : goal.returns-clause-checked_undecided
returns-clause-checked_undecided g c = λ name asked number. told_at _ _ _ _ (Check name) _ status.Undecided _ asked c.code.ensures number c.execute.ensures.ends

pub returns-clause-unaccepted : goal.returns-clause-unaccepted
returns-clause-unaccepted g c = λ name asked number. told_at _ _ _ _ (Check name) _ status.Unaccepted _ asked c.code.ensures number c.execute.ensures.ends

pub returns-clause-check_complete : goal.returns-clause-check_complete
returns-clause-check_complete g c = λ name asked. told_summarized _ _ _ _ _ _ name _ _ _ asked c.code.ensures c.execute.ensures.answered c.execute.ensures.unwritten
