use Rattle.std.proofs.Common.{ℕ, List, ◌++◌, map, take}
use Rattle.hll_types.specs.Declaring.{IsAfter, start}
use Rattle.hll_types.proofs.declare.Declared.expect_names.Given as goal

abbrev pub invariant-loop-name : goal.invariant-loop-name
invariant-loop-name l = (further : List (List ℕ)) → IsAfter l.initial.self start further → IsAfter l.self start (further ++ map (λ n. n.text) (take l.name-index l.names))
