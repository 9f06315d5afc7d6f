use Rattle.std.proofs.Common.{◌<◌, [], List, ℕ, subst, length, arith}
use Rattle.std.specs.Prelude.{All}
use Rattle.std.proofs.lemmas.List.{get_or_default}
use Rattle.graphs.proofs.tests.is_closed.Goals as goal

pub returns-clause-targets : goal.returns-clause-targets
returns-clause-targets c = λ closed k d within.
    let rows = c.args.graph.now.rows in
    subst (λ (row : List ℕ). All (λ b. b < length rows) row) (get_or_default rows k [] d within)
    (c.loop-node.invariant k (omega (arith, within, c.loop-node-test.false, c.nodes-nodes.ensures.value)))
