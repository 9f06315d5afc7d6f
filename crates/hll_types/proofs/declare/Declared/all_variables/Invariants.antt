use Rattle.std.proofs.Common.{ℕ, List, map, fold, take}
use Rattle.hll_meaning.specs.Declarations.{variables_of}
use Rattle.hll_meaning.specs.StaticRules.{Pass1, pass1_item}
use Rattle.hll_types.specs.Declaring.{IsAfter}
use Rattle.hll_types.proofs.declare.Declared.all_variables.Given as goal

abbrev pub invariant-loop-decl : goal.invariant-loop-decl
invariant-loop-decl l = (p : Pass1) (further : List (List ℕ)) → IsAfter l.initial.self p further → IsAfter l.self (fold (pass1_item further) p (map (variables_of l.input) (take l.decl-index l.decls))) further
