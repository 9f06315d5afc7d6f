use Rattle.std.proofs.Common.{arith}
use Rattle.graphs.specs.Searches.{shown}
use Rattle.graphs.proofs.SearchLemmas.{all_finished}
use Rattle.graphs.proofs.search.Search.run.Goals as goal

pub returns-clause-all : goal.returns-clause-all
returns-clause-all c = λ v low.
    all_finished c.args.graph.now.rows (shown c.loop-root.search) c.loop-root.invariant.search c.loop-root.invariant.none v
    (c.loop-root.invariant.seen v (omega (arith, low, c.loop-root-test.false, c.nodes-nodes.ensures.value)))
