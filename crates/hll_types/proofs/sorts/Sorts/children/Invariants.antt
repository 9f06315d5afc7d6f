use Rattle.std.proofs.Common.{◌≡◌, ℕ, List, [], length, take}
use Rattle.std.specs.List.{flat_map}
use Rattle.hll_tree.specs.declared.tree.TypeItem.{TypeItem}
use Rattle.hll_meaning.specs.Names.{Names}
use Rattle.hll_meaning.specs.Declarations.{texts, elements_under, element_table}
use Rattle.hll_meaning.specs.StaticRules.{declaring, sort_of, children_of, children_faults}
use Rattle.hll_types.specs.Sorting.{IsJoining}
use Rattle.hll_types.specs.Standing.{Stand, AreSorts}
use Rattle.hll_types.proofs.sorts.Sorts.children.Given as goal

abbrev pub invariant-loop-name : goal.invariant-loop-name
invariant-loop-name l =
    (names : Names) (further : List (List ℕ)) (types : List TypeItem) → Stand l.names names further → AreSorts l.initial.self types (flat_map children_of types) →
    (children_faults (declaring names further) (flat_map sort_of types) (flat_map children_of types) (take l.name-index l.children) ≡ [])
    × (l.count ≡ length (flat_map (elements_under (element_table types)) (texts (take l.name-index l.children))))
    × IsJoining l.initial.self l.self types (take l.name-index l.children)
