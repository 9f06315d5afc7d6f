use Rattle.std.proofs.Common.{◌≡◌, [], map, replicate}
use Rattle.cell_definitions.specs.Parts.{kept}
use Rattle.cell_definitions.proofs.gathering.nothing.Given as goal

abbrev pub invariant-loop-variable : goal.invariant-loop-variable
invariant-loop-variable l = map kept l.own.items ≡ replicate l._variable []
