use Rattle.ports.proofs.CountLemmas.{counted_at, Enters_there}
use Rattle.ports.proofs.file_desk.FileDesk.enter.Goals as goal

pub returns-in-Some-clause-entered : goal.returns-in-Some-clause-entered
returns-in-Some-clause-entered g c = rw (← c.self.view_is) (Enters_there _ _ _ (counted_at _ _ _ c.in-Some.ensures.place))
