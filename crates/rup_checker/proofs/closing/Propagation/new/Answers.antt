use Rattle.rup_checker.proofs.PropagationLemmas.{quiet_but_first}
use Rattle.rup_checker.proofs.closing.Propagation.new.Goals as goal

pub returns-clause-unseen : goal.returns-clause-unseen
returns-clause-unseen c = quiet_but_first c.args.known.clauses c.in_ok-trail.trail c.in_ok-trail.ensures.taken c.in_ok-trail.ensures.followed
