use Rattle.std.proofs.Common.{◌≡◌, ℕ, ◌<◌, [], map, false}
use Rattle.std.specs.List.{slice_index_or}
use Rattle.std.specs.Str.{bytes_eq}
use Rattle.hll_cli.proofs.table.position.Given as goal

abbrev pub invariant-loop-i : goal.invariant-loop-i
invariant-loop-i l = (k : ℕ) → k < l.i → bytes_eq (slice_index_or (map (λ n. n.now) l.names) k []) l.name ≡ false
