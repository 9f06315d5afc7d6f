use Rattle.std.proofs.Common.{◌≡◌, ◌<◌, ◌≤◌, length, ◌∙◌, ap, arith}
use Rattle.rup_checker.proofs.ReplayLemmas.{subsumes_first, new_more, not_new}
use Rattle.rup_checker.proofs.replay.are_new.Goals as goal

pub is_new-requires-clause-listed : goal.is_new-requires-clause-listed
is_new-requires-clause-listed c =
    let within : c.loop-number.number ≤ length c.args.known.now.clauses = omega arith in
    subsumes_first c.args.known.now c.first.result c.loop-number.number c.loop-number.anchors c.loop-number.marks c.first.ensures within c.loop-number.invariant.marked c.loop-number.invariant.listed c.loop-number.invariant.anchored
