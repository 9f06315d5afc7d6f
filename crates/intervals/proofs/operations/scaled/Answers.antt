use Rattle.intervals.proofs.ProductLemmas.{beyond}
use Rattle.intervals.proofs.operations.scaled.Goals as goal

pub returns-in-Err : goal.returns-in-Err
returns-in-Err c = beyond c.args.end c.args.times c.if-end-eq0.false c.in-Err.ensures
