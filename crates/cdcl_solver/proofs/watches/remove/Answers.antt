use Rattle.std.proofs.Common.{List, sym, ap, ◌∙◌, arith}
use Rattle.std.specs.List.{swap_remove}
use Rattle.cdcl_solver.specs.declared.watches.Watch.{Watch}
use Rattle.cdcl_solver.proofs.Lists.{removed_inside}
use Rattle.cdcl_solver.proofs.watches.remove.Goals as goal

pub returns-then-at-len : goal.returns-then-at-len
returns-then-at-len c = λ d.
    c.set.ensures ∙ removed_inside c.pop.new.self c.in-Some.last d c.args.at (omega arith)
    ∙ ap (λ (xs : List Watch). swap_remove xs c.args.at d) (sym c.in-Some.ensures)
