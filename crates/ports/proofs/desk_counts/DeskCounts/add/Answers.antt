use Rattle.std.proofs.Common.{refl}
use Rattle.ports.specs.DeskState.{NamedCounts}
use Rattle.ports.proofs.CountLemmas.{Enters_new}
use Rattle.ports.proofs.desk_counts.DeskCounts.add.Goals as goal

pub returns-clause-entered : goal.returns-clause-entered
returns-clause-entered c =
    let w : NamedCounts = record { name = c.in_ok-name.name.bytes.items; reads = 0; writes = 0; given = 0 } in
    rw (c.in_ok-push.ensures.items, c.self.view_is) (Enters_new c.args.self.now c.args.name.now w c.requires c.in_ok-name.ensures.ok _ refl refl refl)
