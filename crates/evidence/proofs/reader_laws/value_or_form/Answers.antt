use Rattle.evidence.proofs.AnyText.{value_or_form}
use Rattle.evidence.proofs.reader_laws.value_or_form.Goals as goal

pub returns : goal.returns
returns c = value_or_form
