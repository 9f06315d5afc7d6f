use Rattle.std.proofs.Common.{rules, ◌≡◌, true}
use Rattle.rup_checker.proofs.ReplayLemmas.{busy_where}
use Rattle.rup_checker.proofs.replay.is_busy.Goals as goal

pub returns : goal.returns
returns c =
    let yes : c.in_ok-are_new.field-0 ≡ true = search rules in
    busy_where c.args.known.clauses c.args.from c.in_ok-reaches_conflict.field-0 (c.in_ok-are_new.ensures.0 yes) c.in_ok-reaches_conflict.ensures
