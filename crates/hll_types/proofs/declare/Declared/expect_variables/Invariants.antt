use Rattle.std.proofs.Common.{ℕ, List, ◌++◌, map, take}
use Rattle.hll_types.specs.Declaring.{IsAfter, start}
use Rattle.hll_types.proofs.declare.Declared.expect_variables.Given as goal

abbrev pub invariant-loop-declarator : goal.invariant-loop-declarator
invariant-loop-declarator l = (further : List (List ℕ)) → IsAfter l.initial.self start further → IsAfter l.self start (further ++ map (λ d. d.name.text) (take l.declarator-index l.declarator-items))
