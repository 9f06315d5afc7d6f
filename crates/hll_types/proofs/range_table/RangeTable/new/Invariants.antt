use Rattle.std.proofs.Common.{map, take}
use Rattle.hll_expressions.specs.Ranges.{placed}
use Rattle.hll_types.specs.RangeTables.{Tabulates}
use Rattle.hll_types.proofs.range_table.RangeTable.new.Given as goal

abbrev pub invariant-loop-placed : goal.invariant-loop-placed
invariant-loop-placed l = Tabulates l.table (map placed (take l.placed-index l.list))
