use Rattle.kinduction.proofs.Counts.{rounds_fit}
use Rattle.kinduction_tests.proofs.fitting.has_fit_rounds.Goals as goal

pub returns-then-depth-le64-clause-size : goal.returns-then-depth-le64-clause-size
returns-then-depth-le64-clause-size c = λ fits p. rounds_fit c.args.l.now p c.args.depth (c.is_small.ensures.0 fits)
