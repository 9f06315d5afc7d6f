use Rattle.evidence.proofs.FirstWrong.{known_before, unknown_with}
use Rattle.evidence.proofs.reader_laws.lines_before_form_go_on.Goals as goal

pub returns-clause-before : goal.returns-clause-before
returns-clause-before c = known_before

pub returns-clause-after : goal.returns-clause-after
returns-clause-after c = unknown_with
