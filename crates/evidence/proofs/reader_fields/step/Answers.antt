use Rattle.std.proofs.Common.{sym, ◌∙◌}
use Rattle.evidence.proofs.ReadSteps.{unparted, no_colon}
use Rattle.evidence.proofs.reader_fields.step.Goals as goal

pub returns-in-None : goal.returns-in-None
returns-in-None c = no_colon c.args.text.now (unparted c.args.text.now (sym c.colon.ensures ∙ c.in-None.is))
