use Rattle.std.proofs.Common.{◌≡◌, [], take}
use Rattle.std.specs.List.{flat_map}
use Rattle.hll_types.specs.Defining.{demand_faults}
use Rattle.hll_expressions.specs.Things.{names_of}
use Rattle.hll_types.proofs.define.demand_each.Given as goal

abbrev pub invariant-loop-expr : goal.invariant-loop-expr
invariant-loop-expr l = flat_map (demand_faults (names_of l.names)) (take l.expr-index l.exprs) ≡ []
