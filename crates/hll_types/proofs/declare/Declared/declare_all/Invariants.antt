use Rattle.std.proofs.Common.{◌≡◌, [], ◌++◌, map, take}
use Rattle.hll_meaning.specs.StaticRules.{fresh, taken_by}
use Rattle.hll_expressions.specs.Things.{declared_names, IsAdded}
use Rattle.hll_types.specs.Declaring.{with_kinds}
use Rattle.hll_types.proofs.declare.Declared.declare_all.Given as goal

abbrev pub invariant-loop-place : goal.invariant-loop-place
invariant-loop-place l =
    (fresh (taken_by (declared_names l.initial.self.names)) (map (λ d. d.name) l.declarators) ≡ [] →
    IsAdded l.initial.self.names l.self.names (declared_names l.initial.self.names ++ with_kinds l.input (take l.place l.declarators) (take l.place l.kinds)))
    × (l.self.sorts ≡ l.initial.self.sorts) × (l.self.cells ≡ l.initial.self.cells)
