use Rattle.std.proofs.Common.{◌<◌, List, ℕ, sym, subst, get_or, take, length, arith}
use Rattle.std.proofs.lemmas.List.{take_more}
use Rattle.graphs.specs.Searches.{AreFinished}
use Rattle.graphs.specs.declared.search.Place.TheVariants.{Finished}
use Rattle.std.proofs.Common.{set}
use Rattle.graphs.proofs.Placing.{finished_more}
use Rattle.graphs.proofs.search.mark_finished.Goals as goal

pub loop-node-preserved : goal.loop-node-preserved
loop-node-preserved c =
    let nodes = c.args.nodes.now in
    let i = c.loop-node.node-index in
    let v = get_or nodes i 0 in
    let within : i < length nodes = c.loop-node-test.true in
    let old = c.args.places.now.items in
    let mid = c.loop-node.places.items in
    let low : v < length mid = (let all = c.requires i 0 within in omega (arith, all, c.loop-node.invariant.size)) in
    subst (λ (xs : List ℕ). AreFinished old (set mid v Finished) xs) (sym (take_more nodes i 0 within))
    (finished_more old mid (take i nodes) v c.loop-node.invariant low)
