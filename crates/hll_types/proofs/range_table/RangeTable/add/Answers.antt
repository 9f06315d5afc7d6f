use Rattle.hll_types.proofs.RangeTableLemmas.{tabulates_more}
use Rattle.hll_types.proofs.range_table.RangeTable.add.Goals as goal

pub returns-in-Ok-clause-added : goal.returns-in-Ok-clause-added
returns-in-Ok-clause-added c rs before = tabulates_more c.args.self.now (record { by_place = c.insert.new.self }) rs c.args.placed.now before c.in-Ok.ensures.updates.0
