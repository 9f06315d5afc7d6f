use Rattle.cell_layout.proofs.PartsInRows.{parts_stand_in_rows}
use Rattle.cell_layout.proofs.StepsIntoCells.{steps_lead_alike}
use Rattle.cell_layout.proofs.laws.parts_stand_in_rows.Goals as goal

pub returns-clause-stand : goal.returns-clause-stand
returns-clause-stand c = parts_stand_in_rows

pub returns-clause-alike : goal.returns-clause-alike
returns-clause-alike c = steps_lead_alike
