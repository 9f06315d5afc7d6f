use Rattle.std.proofs.Common.{refl}
use Rattle.evidence.proofs.TraceLemmas.{no_run}
use Rattle.evidence.proofs.trace.Trace.new.Goals as goal

pub returns-clause-none : goal.returns-clause-none
returns-clause-none c = no_run c.args.l.now _ refl refl
