use Rattle.std.proofs.Common.{◌≡◌}
use Rattle.cdcl_solver.specs.Searches.{GoesOn, AreShortTrue}
use Rattle.cdcl_solver.proofs.search.Search.start.Given as goal

abbrev pub invariant-loop-number : goal.invariant-loop-number
invariant-loop-number l = record {
  goes_on : GoesOn l.initial.self l.self;
  clauses : l.self.clauses ≡ l.initial.self.clauses;
  followed : l.self.followed ≡ l.initial.self.followed;
  short : AreShortTrue l.self l.number;
}
