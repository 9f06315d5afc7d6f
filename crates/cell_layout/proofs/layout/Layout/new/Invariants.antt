use Rattle.std.proofs.Common.{◌≡◌, map, take}
use Rattle.dependence.proofs.DefinedCells.{count_all}
use Rattle.cell_layout.specs.Starts.{starts_from}
use Rattle.cell_layout.proofs.KindPairs.{kind_pair}
use Rattle.cell_layout.proofs.layout.Layout.new.Given as goal

abbrev pub invariant-loop-variable : goal.invariant-loop-variable
invariant-loop-variable l = record {
  starts : l.starts.items ≡ starts_from 0 (map kind_pair (take l.variable-index l.variables));
  start : l.start ≡ count_all (map kind_pair (take l.variable-index l.variables));
}
