use Rattle.std.proofs.Common.{◌≡◌, ℕ, ◌≤◌, ◌<◌, false, ◌||◌}
use Rattle.std.specs.List.{slice_index_or}
use Rattle.hll_cli.proofs.table.or.Given as goal

abbrev pub invariant-loop-row : goal.invariant-loop-row
invariant-loop-row l =
    ((k : ℕ) → k < l.row → slice_index_or l.column k false ≡ (slice_index_or l.other k false || slice_index_or l.initial.column k false))
    × ((k : ℕ) → l.row ≤ k → slice_index_or l.column k false ≡ slice_index_or l.initial.column k false)
