use Rattle.std.proofs.Common.{sym, subst, arith}
use Rattle.cdcl_solver.specs.Searches.{Searched, IsWaiting, AreSafeAfter}
use Rattle.cdcl_solver.proofs.Settling.{advanced, few_followed}
use Rattle.cdcl_solver.proofs.search.Search.advance.Goals as goal

pub overflow_add-self : goal.overflow_add-self
overflow_add-self c =
    let waiting = subst (λ (s : Searched). IsWaiting s c.args.literal) (sym c.self.view_is) c.requires.waiting in
    let few = few_followed _ c.args.literal waiting c.self.invariant.search in
    omega (arith, few, c.self.invariant.search.few)

pub invariant_of-self : goal.invariant_of-self
invariant_of-self c =
    let waiting = subst (λ (s : Searched). IsWaiting s c.args.literal) (sym c.self.view_is) c.requires.waiting in
    let safe = subst (λ (s : Searched). AreSafeAfter s c.args.literal) (sym c.self.view_is) c.requires.safe in
    record { search = advanced _ c.args.literal waiting c.self.invariant.search safe; marks = c.self.invariant.marks }

pub returns-clause-search : goal.returns-clause-search
returns-clause-search c = (invariant_of-self c).search
