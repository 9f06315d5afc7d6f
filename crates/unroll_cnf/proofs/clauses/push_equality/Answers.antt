use Rattle.std.proofs.Common.{rules}
use Rattle.std.proofs.lemmas.List.{append_assoc}
use Rattle.unroll_cnf.proofs.clauses.push_equality.Goals as goal

pub returns-clause-clauses : goal.returns-clause-clauses
returns-clause-clauses c = search (rules, append_assoc)
