use Rattle.std.proofs.Common.{◌+◌, length, arith, length-append}
use Rattle.rup_checker.proofs.Pieces.{AreEnds-push, pieces-push}
use Rattle.rup_checker.proofs.store.Store.append.Goals as goal

pub invariant_of-self-2 : goal.invariant_of-self-2
invariant_of-self-2 c =
    let literals = c.self.inside.literals.items in
    let ends = c.self.inside.ends.items in
    let more = AreEnds-push 0 ends (length literals) (length literals + length c.args.clause.now) c.self.invariant (omega arith) in
    grind (arith, more, length-append, c.reserve.ensures, c.in_ok-extend_from_slice.ensures, c.len-end.ensures, c.push_reserved.ensures)

pub returns-clause-ok : goal.returns-clause-ok
returns-clause-ok c =
    let more = pieces-push c.self.inside.literals.items c.args.clause.now 0 c.self.inside.ends.items c.self.invariant in
    grind (arith, more, length-append, c.self.view_is, c.reserve.ensures, c.in_ok-extend_from_slice.ensures, c.len-end.ensures, c.push_reserved.ensures)
