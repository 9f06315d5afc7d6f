use Rattle.std.proofs.Common.{◌++◌, ◌∷◌, [], length, arith, length-append}
use Rattle.graphs.proofs.Pieces.{AreEnds-more, pieces-append, behind-append}
use Rattle.graphs.proofs.graph.Graph.arrow.Goals as goal

pub returns-clause-ok : goal.returns-clause-ok
returns-clause-ok c =
    let targets = c.self.inside.targets.items in
    let ends = c.self.inside.ends.items in
    let rows = pieces-append targets (c.args.to ∷ []) 0 ends c.self.invariant in
    let begun = behind-append targets (c.args.to ∷ []) 0 ends c.self.invariant in
    grind (arith, rows, begun, c.self.view_is, c.in_ok-push.ensures)

pub invariant_of-self-2 : goal.invariant_of-self-2
invariant_of-self-2 c =
    let more = AreEnds-more 0 c.self.inside.ends.items (length c.self.inside.targets.items) (length (c.self.inside.targets.items ++ c.args.to ∷ [])) c.self.invariant (omega (arith, length-append c.self.inside.targets.items (c.args.to ∷ []))) in
    grind (arith, more, c.in_ok-push.ensures)
