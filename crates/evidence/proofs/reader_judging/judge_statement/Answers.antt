use Rattle.std.proofs.Common.{sym, subst}
use Rattle.evidence.specs.declared.reader_due.Statement.{Statement}
use Rattle.evidence.specs.declared.reader_said.Said.TheVariants as said
use Rattle.evidence.specs.Telling.{KeepsOn}
use Rattle.evidence.proofs.TellTurns.{line_after_it, line_kept, end_said}
use Rattle.evidence.proofs.reader_judging.judge_statement.Goals as goal

pub judge_line-requires : goal.judge_line-requires
judge_line-requires c = line_after_it c.args.judged.now c.args.number c.args.statement c.args.progress.now c.in-Some.judged c.in-Some.is c.requires

pub returns-in-Some : goal.returns-in-Some
returns-in-Some c = line_kept c.args.judged.now c.args.number c.args.statement c.args.progress.now c.in-Some.judged c.judge_line.new.judged c.judge_line.result c.in-Some.is c.in_default.not-End c.judge_line.ensures

pub returns-in-End : goal.returns-in-End
returns-in-End c = subst (λ (s : Statement). KeepsOn c.args.judged.now c.args.number (said.Line s) c.args.progress.now c.args.judged.now) (sym c.in-End.is) (end_said c.args.judged.now c.args.number c.args.progress.now)
