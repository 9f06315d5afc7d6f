use Rattle.std.proofs.Common.{ℕ, List, ◌++◌, map, take}
use Rattle.std.specs.List.{flat_map}
use Rattle.hll_tree.specs.declared.tree.Decl.{Decl}
use Rattle.hll_types.specs.Declaring.{IsAfter, start}
use Rattle.hll_types.proofs.declare.Declared.expect_all.Given as goal

abbrev pub invariant-loop-decl : goal.invariant-loop-decl
invariant-loop-decl l = (further : List (List ℕ)) → IsAfter l.initial.self start further → IsAfter l.self start (further ++ flat_map (λ (decl : Decl). map (λ d. d.name.text) decl.names) (take l.decl-index l.decls))
