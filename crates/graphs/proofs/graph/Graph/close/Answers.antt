use Rattle.std.proofs.Common.{length, arith}
use Rattle.graphs.proofs.Pieces.{AreEnds-push, pieces-push, behind-push}
use Rattle.graphs.proofs.graph.Graph.close.Goals as goal

pub returns-clause-ok : goal.returns-clause-ok
returns-clause-ok c =
    let targets = c.self.inside.targets.items in
    let ends = c.self.inside.ends.items in
    let rows = pieces-push targets 0 ends in
    let begun = behind-push targets 0 ends in
    grind (arith, rows, begun, c.self.view_is, c.len-end.ensures, c.in_ok-push.ensures)

pub invariant_of-self-2 : goal.invariant_of-self-2
invariant_of-self-2 c =
    let more = AreEnds-push 0 c.self.inside.ends.items (length c.self.inside.targets.items) c.self.invariant in
    grind (arith, more, c.len-end.ensures, c.in_ok-push.ensures)
