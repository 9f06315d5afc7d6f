use Rattle.std.proofs.Common.{List, ℕ, sym, subst, length, ◌∙◌}
use Rattle.graphs.specs.Graphs.{HasArrow}
use Rattle.graphs.specs.Orders.{IsOrder}
use Rattle.graphs.specs.Searches.{shown}
use Rattle.graphs.proofs.Arranging.{search_order, search_start}
use Rattle.graphs.proofs.arrangement.arrange.Goals as goal

pub returns-in_default-start-clause-order : goal.returns-in_default-start-clause-order
returns-in_default-start-clause-order c =
    let rows = c.args.graph.now.rows in
    subst (λ (order : List ℕ). IsOrder (HasArrow rows) (length rows) order) (sym c.into_order.ensures)
    (search_order rows (shown c.in-Ok.search) c.in-Ok.ensures.search c.in-Ok.ensures.all (sym c.start.ensures ∙ c.in_default-start.is))

pub cycle_from-requires-clause-start : goal.cycle_from-requires-clause-start
cycle_from-requires-clause-start c =
    let rows = c.args.graph.now.rows in
    search_start rows (shown c.in-Ok.search) c.in-Some.start c.in-Ok.ensures.search c.in-Ok.ensures.all (sym c.start.ensures ∙ c.in-Some.is)
