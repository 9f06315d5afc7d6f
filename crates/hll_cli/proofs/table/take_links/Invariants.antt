use Rattle.std.proofs.Common.{◌≡◌, ℕ, ◌≤◌, ◌<◌, List, ◌∷◌, Bool, false, ◌||◌}
use Rattle.std.specs.List.{slice_index_or}
use Rattle.hll_tree.specs.declared.tree.Op.{Op}
use Rattle.hll_cli.specs.Table.{chain_value}
use Rattle.hll_cli.proofs.table.take_links.Given as goal

abbrev pub invariant-loop-row : goal.invariant-loop-row
invariant-loop-row l =
    ((k : ℕ) (links : List (Op × Bool)) → k < l.row →
    (slice_index_or l.settled k false || chain_value (slice_index_or l.value k false) links)
    ≡ (slice_index_or l.initial.settled k false || chain_value (slice_index_or l.initial.value k false) ((l.op, slice_index_or l.next k false) ∷ links)))
    × ((k : ℕ) → l.row ≤ k → (slice_index_or l.settled k false ≡ slice_index_or l.initial.settled k false) × (slice_index_or l.value k false ≡ slice_index_or l.initial.value k false))
