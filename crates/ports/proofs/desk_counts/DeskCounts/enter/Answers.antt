use Rattle.ports.proofs.CountLemmas.{counted_at, Enters_there}
use Rattle.ports.proofs.desk_counts.DeskCounts.enter.Goals as goal

pub returns-in-Some : goal.returns-in-Some
returns-in-Some c = Enters_there _ c.args.self.now c.args.name.now (counted_at _ _ _ c.in-Some.ensures.place)
