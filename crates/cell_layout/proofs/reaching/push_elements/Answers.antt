use Rattle.std.proofs.Common.{ℕ, ◌+◌, ◌*◌, map, ap}
use Rattle.hll_types.specs.Measures.{capped}
use Rattle.cell_layout.proofs.PickedCells.{element_appended}
use Rattle.cell_layout.proofs.reaching.push_elements.Goals as goal

pub loop-place-preserved : goal.loop-place-preserved
loop-place-preserved c =
    let firsts = c.args.firsts.now in
    let by = c.saturating_mul.result in
    element_appended (λ (place : ℕ). map (λ at. capped (at + capped (c.args.each * place))) firsts) c.loop-place.place c.args.starts.now.items c.loop-place.starts.items c.push_shifted.new.starts.items (map (λ at. capped (at + by)) firsts)
    c.loop-place.invariant c.in_ok-push_shifted.ensures (ap (λ (n : ℕ). map (λ at. capped (at + n)) firsts) c.saturating_mul.ensures)
