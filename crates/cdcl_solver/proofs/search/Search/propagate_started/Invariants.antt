use Rattle.std.proofs.Common.{◌≡◌, ◌-◌, true}
use Rattle.cdcl_solver.specs.Searches.{GoesOn}
use Rattle.cdcl_solver.proofs.search.Search.propagate_started.Given as goal

abbrev pub invariant-loop-literal : goal.invariant-loop-literal
invariant-loop-literal l = record {
  goes_on : GoesOn l.initial.self l.self;
  started : l.self.started ≡ true;
}

abbrev pub decreases-loop-literal : goal.decreases-loop-literal
decreases-loop-literal l = l.initial.self.variables - l.self.followed
