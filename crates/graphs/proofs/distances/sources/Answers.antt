use Rattle.std.proofs.Common.{◌<◌, [], List, ℕ, sym, ap, subst, ◌∙◌, length, get_or, arith}
use Rattle.std.specs.Prelude.{◌↔◌}
use Rattle.std.proofs.lemmas.List.{length-replicate}
use Rattle.graphs.specs.Graphs.{HasArrow}
use Rattle.graphs.specs.Spreading.{HasSource, AddsSource}
use Rattle.graphs.proofs.Spread.{listed_none, listed_more, arrow_source}
use Rattle.graphs.proofs.distances.sources.Goals as goal

pub loop-node-init : goal.loop-node-init
loop-node-init c =
    let empty : List ℕ = [] in
    let is = c.in_ok-sources.ensures in
    record {
      size = ap length is ∙ length-replicate c.nodes-nodes.result empty ∙ c.nodes-nodes.ensures.value;
      same = λ a b. subst (λ (lists : List (List ℕ)). ((a < 0) × HasArrow c.args.graph.now.rows a b) ↔ HasSource lists a b) (sym is) (listed_none c.args.graph.now.rows c.nodes-nodes.result a b);
    }

pub add_sources-requires : goal.add_sources-requires
add_sources-requires c = λ k d inside.
    let rows = c.args.graph.now.rows in
    let low : c.loop-node.node < length rows = omega (arith, c.loop-node-test.true, c.nodes-nodes.ensures.value) in
    let all = subst (λ (xs : List ℕ). (k d : ℕ) → k < length xs → get_or xs k d < length rows) (sym c.row.ensures) (c.requires.targets c.loop-node.node [] low) in
    omega (arith, all k d inside, c.loop-node.invariant.size)

pub loop-node-preserved : goal.loop-node-preserved
loop-node-preserved c =
    let rows = c.args.graph.now.rows in
    let adds = subst (AddsSource c.loop-node.sources.items c.add_sources.new.sources.items c.loop-node.node) c.row.ensures c.in_ok-add_sources.ensures in
    record {
      size = adds.size ∙ c.loop-node.invariant.size;
      same = listed_more rows c.loop-node.sources.items c.add_sources.new.sources.items c.loop-node.node c.loop-node.invariant.same adds;
    }

pub returns-clause-same : goal.returns-clause-same
returns-clause-same c = λ a b.
    let rows = c.args.graph.now.rows in
    let same = c.loop-node.invariant.same a b in
    (λ arrow. same.0 (let low = arrow_source rows a b arrow in omega (arith, low, c.loop-node-test.false, c.nodes-nodes.ensures.value), arrow), λ there. (same.1 there).1)
