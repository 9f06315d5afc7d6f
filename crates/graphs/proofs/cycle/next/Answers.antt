use Rattle.std.proofs.Common.{◌<◌, List, ℕ, refl, sym, subst, length, take}
use Rattle.std.proofs.lemmas.List.{take_more}
use Rattle.graphs.specs.Spreading.{IsBest}
use Rattle.graphs.proofs.cycle.next.Goals as goal

pub loop-node-preserved : goal.loop-node-preserved
loop-node-preserved c =
    let row = c.args.row.now in
    let i = c.loop-node.node-index in
    let within : i < length row = c.loop-node-test.true in
    subst (λ (xs : List ℕ). IsBest xs c.args.distances.now c.better-best.result) (sym (take_more row i 0 within))
    (c.better-best.ensures (take i row) c.args.distances.now refl c.loop-node.invariant)
