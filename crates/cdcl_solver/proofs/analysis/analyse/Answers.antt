use Rattle.std.proofs.Common.{◌≡◌, ◌∙◌, ℕ, List, ap, reverse}
use Rattle.cdcl_solver.proofs.Showing.{shown}
use Rattle.cdcl_solver.proofs.analysis.analyse.Goals as goal

pub returns-clause-shown : goal.returns-clause-shown
returns-clause-shown c = shown c.args.search.now c.in_ok-explained.ensures.search c.in_ok-explained.explained c.in_ok-explained.ensures.whole c.in_ok-hints.hints (c.in_ok-hints.ensures ∙ ap (λ (ns : List ℕ). reverse ns) c.as_slice.ensures)
