use Rattle.trace_text.proofs.ValueFronts.{true_at}
use Rattle.trace_text.proofs.values.truth_at.Goals as goal

pub returns-in-Some : goal.returns-in-Some
returns-in-Some c = λ all. true_at all c.args.text.now c.in-Some.rest.now c.before_end.result c.in-Some.ensures c.before_end.ensures
