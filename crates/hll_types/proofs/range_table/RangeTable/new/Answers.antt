use Rattle.std.proofs.Common.{sym, subst, ◌∙◌}
use Rattle.hll_expressions.specs.Ranges.{placed}
use Rattle.hll_expressions.proofs.Folds.{mapped_more, mapped_all}
use Rattle.hll_types.specs.RangeTables.{Tabulates}
use Rattle.hll_types.proofs.RangeTableLemmas.{no_ranges}
use Rattle.hll_types.proofs.range_table.RangeTable.new.Goals as goal

pub loop-placed-init : goal.loop-placed-init
loop-placed-init c = no_ranges (record { by_place = c.new.result }) c.new.ensures.empty

pub loop-placed-preserved : goal.loop-placed-preserved
loop-placed-preserved c = subst (Tabulates c.add.new.self) (sym (mapped_more placed c.as_slice-list.result.now c.loop-placed.placed-index c.placed-item.result c.loop-placed-test.true c.placed-item.is)) (c.in_ok-add.ensures.added _ c.loop-placed.invariant)

pub returns-clause-table : goal.returns-clause-table
returns-clause-table c = subst (Tabulates c.loop-placed.table) (mapped_all placed c.as_slice-list.result.now c.loop-placed.placed-index c.loop-placed-test.false ∙ c.as_slice-list.ensures) c.loop-placed.invariant
