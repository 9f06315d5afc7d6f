use Rattle.std.proofs.Common.{◌≡◌, ◌+◌, ◌++◌, map, take}
use Rattle.hll_types.specs.Measures.{capped}
use Rattle.cell_layout.proofs.reaching.push_shifted.Given as goal

abbrev pub invariant-loop-first : goal.invariant-loop-first
invariant-loop-first l = l.starts.items ≡ l.initial.starts.items ++ map (λ at. capped (at + l.by)) (take l.first-index l.firsts)
