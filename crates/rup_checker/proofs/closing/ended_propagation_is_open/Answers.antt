use Rattle.std.specs.Prelude.{Contains}
use Rattle.rup_checker.proofs.Places.{literals_few}
use Rattle.rup_checker.proofs.TrailLemmas.{trail_more, HasStatus-trail}
use Rattle.rup_checker.proofs.PropagationLemmas.{open_where_complete}
use Rattle.rup_checker.proofs.closing.ended_propagation_is_open.Goals as goal

pub returns : goal.returns
returns c = let x = literals_few in let y = trail_more in let z = HasStatus-trail in λ clauses taken. open_where_complete clauses (Contains taken)
