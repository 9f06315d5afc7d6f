use Rattle.std.proofs.Common.{◌≡◌, ℕ, List, [], map, take}
use Rattle.hll_meaning.specs.Names.{Names}
use Rattle.hll_meaning.specs.Types.{kind_of}
use Rattle.hll_meaning.specs.Declarations.{with_dims}
use Rattle.hll_meaning.specs.StaticRules.{taken_by}
use Rattle.hll_types.specs.Standing.{Stand}
use Rattle.hll_types.specs.Declaring.{variables_faults}
use Rattle.hll_types.proofs.VariablesWalk.{variable_names, cells_behind}
use Rattle.hll_types.proofs.declare.Declared.kinds.Given as goal

abbrev pub invariant-loop-declarator : goal.invariant-loop-declarator
invariant-loop-declarator l =
    (names : Names) (further : List (List ℕ)) → Stand l.self.names names further →
    (variables_faults names further (taken_by names) l.self.cells (kind_of l.each) (take l.declarator-index l.declarators) ≡ [])
    × (l.before ≡ variable_names (take l.declarator-index l.declarators))
    × (map kind_of l.kinds.items ≡ map (λ d. with_dims names d.dims (kind_of l.each)) (take l.declarator-index l.declarators))
    × (l.total ≡ cells_behind names (kind_of l.each) l.self.cells (take l.declarator-index l.declarators))
