use Rattle.std.proofs.Common.{ℕ, List, map, fold, take}
use Rattle.hll_meaning.specs.Declarations.{a_type}
use Rattle.hll_meaning.specs.StaticRules.{Pass1, pass1_item}
use Rattle.hll_types.specs.Declaring.{IsAfter}
use Rattle.hll_types.proofs.declare.Declared.all_types.Given as goal

abbrev pub invariant-loop-item : goal.invariant-loop-item
invariant-loop-item l = (p : Pass1) (further : List (List ℕ)) → IsAfter l.initial.self p further → IsAfter l.self (fold (pass1_item further) p (map a_type (take l.item-index l.items))) further
