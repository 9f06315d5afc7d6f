use Rattle.std.proofs.Common.{◌≡◌, ◌+◌, ◌*◌, ◌++◌, map}
use Rattle.std.specs.List.{flat_map, range_with_len}
use Rattle.hll_types.specs.Measures.{capped}
use Rattle.cell_layout.proofs.reaching.push_elements.Given as goal

abbrev pub invariant-loop-place : goal.invariant-loop-place
invariant-loop-place l = l.starts.items ≡ l.initial.starts.items ++ flat_map (λ place. map (λ at. capped (at + capped (l.each * place))) l.firsts) (range_with_len 0 l.place)
