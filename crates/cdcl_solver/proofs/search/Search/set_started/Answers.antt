use Rattle.std.proofs.Common.{sym, subst, length}
use Rattle.cdcl_solver.specs.Searches.{Searched, AreShortTrue}
use Rattle.cdcl_solver.proofs.Settling.{started_search}
use Rattle.cdcl_solver.proofs.search.Search.set_started.Goals as goal

pub invariant_of-self : goal.invariant_of-self
invariant_of-self c =
    let short = subst (λ (s : Searched). AreShortTrue s (length s.clauses)) (sym c.self.view_is) c.requires in
    record { search = started_search _ c.self.invariant.search short; marks = c.self.invariant.marks }

pub returns-clause-search : goal.returns-clause-search
returns-clause-search c = (invariant_of-self c).search
