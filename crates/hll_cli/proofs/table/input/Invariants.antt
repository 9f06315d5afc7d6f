use Rattle.std.proofs.Common.{◌≡◌, ℕ, ◌<◌, ◌^◌, length, false}
use Rattle.std.specs.List.{slice_index_or}
use Rattle.hll_cli.specs.Table.{row}
use Rattle.hll_cli.proofs.table.input.Given as goal

abbrev pub invariant-loop-number : goal.invariant-loop-number
invariant-loop-number l =
    (l.rows ≡ 2 ^ l.inputs) × (length l.column.items ≡ l.number)
    × ((k : ℕ) → k < l.number → slice_index_or l.column.items k false ≡ slice_index_or (row l.inputs k) l.position false)
