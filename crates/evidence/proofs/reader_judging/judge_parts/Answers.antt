use Rattle.std.proofs.Common.{◌∙◌, sym}
use Rattle.evidence.proofs.TellTurns.{parts_said}
use Rattle.evidence.proofs.reader_judging.judge_parts.Goals as goal

pub returns : goal.returns
returns c =
    parts_said c.args.judged.now c.args.number c.args.parts c.args.progress.now c.in-Some.before c.in_ok-now-in-Some.now (sym c.take.ensures.value ∙ c.in-Some.is) c.in_ok-now-in-Some.ensures
