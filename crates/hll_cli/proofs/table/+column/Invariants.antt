use Rattle.std.proofs.Common.{drop, map}
use Rattle.hll_cli.proofs.Columns.{ChainSoFar}
use Rattle.hll_cli.proofs.Weights.{weight}
use Rattle.hll_cli.proofs.table.+column.Given as goal

abbrev pub decreases-column : goal.decreases-column
decreases-column l = weight l.expr.now

abbrev pub invariant-loop-link : goal.invariant-loop-link
invariant-loop-link l = ChainSoFar (map (λ n. n.now) l.names) l.expr l.settled.items l.value.items (drop l.link-index l.link-items)
