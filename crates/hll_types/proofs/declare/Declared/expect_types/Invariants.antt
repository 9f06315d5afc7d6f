use Rattle.std.proofs.Common.{ℕ, List, ◌++◌, take}
use Rattle.std.specs.List.{flat_map}
use Rattle.hll_meaning.specs.StaticRules.{elements_of}
use Rattle.hll_types.specs.Declaring.{IsAfter, start}
use Rattle.hll_types.proofs.declare.Declared.expect_types.Given as goal

abbrev pub invariant-loop-item : goal.invariant-loop-item
invariant-loop-item l = (further : List (List ℕ)) → IsAfter l.initial.self start further → IsAfter l.self start (further ++ flat_map elements_of (take l.item-index l.items))
