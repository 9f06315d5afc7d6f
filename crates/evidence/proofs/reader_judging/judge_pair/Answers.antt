use Rattle.evidence.proofs.TellTurns.{both_models, models_said}
use Rattle.evidence.proofs.reader_judging.judge_pair.Goals as goal

pub judge_models-requires : goal.judge_models-requires
judge_models-requires c = both_models c.args.judged.now c.args.number c.args.progress.now c.requires

pub returns : goal.returns
returns c = models_said c.args.judged.now c.args.number c.args.progress.now c.in_ok-now.now c.in_ok-now.ensures
