use Rattle.std.proofs.Common.{◌≡◌, take}
use Rattle.hll_types.specs.Measures.{capped}
use Rattle.trace_text.proofs.InputCells.{count_of}
use Rattle.trace_text.proofs.size.all_cells.Given as goal

abbrev pub invariant-loop-variable : goal.invariant-loop-variable
invariant-loop-variable l = l.count ≡ capped (count_of (take l.variable-index l.variables))
