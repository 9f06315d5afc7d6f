use Rattle.std.proofs.Common.{arith}
use Rattle.graphs.proofs.Pieces.{length-pieces}
use Rattle.graphs.proofs.graph.Graph.nodes.Goals as goal

pub returns-clause-value : goal.returns-clause-value
returns-clause-value c = grind (arith, length-pieces, c.self.view_is, c.len.ensures)
