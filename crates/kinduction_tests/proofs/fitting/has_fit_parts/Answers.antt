use Rattle.kinduction.proofs.Counts.{parts_fit}
use Rattle.kinduction_tests.proofs.fitting.has_fit_parts.Goals as goal

pub returns : goal.returns
returns c = λ fits. parts_fit c.args.m.now (c.has_few_parts.ensures.0 fits)
