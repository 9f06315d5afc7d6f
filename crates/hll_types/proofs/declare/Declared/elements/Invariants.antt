use Rattle.std.proofs.Common.{◌≡◌, [], ◌++◌, take}
use Rattle.hll_meaning.specs.StaticRules.{fresh, taken_by}
use Rattle.hll_expressions.specs.Things.{declared_names, IsAdded}
use Rattle.hll_types.specs.Declaring.{with_codes}
use Rattle.hll_types.proofs.declare.Declared.elements.Given as goal

abbrev pub invariant-loop-place : goal.invariant-loop-place
invariant-loop-place l =
    (fresh (taken_by (declared_names l.initial.self.names)) (take l.place l.names) ≡ [])
    × IsAdded l.initial.self.names l.self.names (declared_names l.initial.self.names ++ with_codes l.sort.text 0 (take l.place l.names))
    × (l.self.sorts ≡ l.initial.self.sorts)
    × (l.self.cells ≡ l.initial.self.cells)
