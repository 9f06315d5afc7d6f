use Rattle.evidence.proofs.FirstWrong.{one_form}
use Rattle.evidence.proofs.reader_laws.one_form.Goals as goal

pub returns : goal.returns
returns c = one_form
