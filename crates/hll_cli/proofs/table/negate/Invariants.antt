use Rattle.std.proofs.Common.{◌≡◌, ℕ, ◌≤◌, ◌<◌, false, not}
use Rattle.std.specs.List.{slice_index_or}
use Rattle.hll_cli.proofs.table.negate.Given as goal

abbrev pub invariant-loop-value : goal.invariant-loop-value
invariant-loop-value l =
    ((k : ℕ) → k < l.value-index → slice_index_or l.column k false ≡ not (slice_index_or l.initial.column k false))
    × ((k : ℕ) → l.value-index ≤ k → slice_index_or l.column k false ≡ slice_index_or l.initial.column k false)
