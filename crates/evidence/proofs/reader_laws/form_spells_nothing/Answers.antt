use Rattle.evidence.proofs.FirstWrong.{form_spells_nothing}
use Rattle.evidence.proofs.reader_laws.form_spells_nothing.Goals as goal

pub returns : goal.returns
returns c = form_spells_nothing
