-- Words for the contracts of private parts: enumerations and sorts by their names.
use Rattle.std.specs.Prelude.{◌≡◌, ℕ, ◌-◌, pos, ◌||◌, ◌⊎◌, List, [], ◌∷◌, ◌++◌, map, length, Some, Result, MatchResult}
use Rattle.std.specs.List.{flat_map}
use Rattle.std.specs.Str.{bytes_eq}
use Rattle.indexmap.specs.IndexMap.{insert_entry}
use Rattle.intervals.specs.Ends.{Ends}
use Rattle.hll_tree.specs.declared.tree.Name.{Name}
use Rattle.hll_tree.specs.declared.tree.TypeItem.{TypeItem}
use Rattle.hll_meaning.specs.Names.{Names, under}
use Rattle.hll_meaning.specs.Declarations.{texts, is_among, element_table, elements_under}
use Rattle.hll_meaning.specs.StaticRules.{declaring, sort_of, children_of, child_faults, children_faults}
use Rattle.hll_expressions.specs.declared.faults.StaticFault.{StaticFault}
use Rattle.hll_types.specs.declared.sorts.Sort.{Sort}
use Rattle.hll_expressions.specs.declared.things.Things.{Things}
use Rattle.hll_expressions.specs.Answers.{IsFaultAt}
use Rattle.hll_types.specs.Standing.{Stand, is_sort_in, is_joined_in, AreSorts}

-- the codes of so many elements
abbrev pub codes_of_count : ℕ → Ends
codes_of_count n = record { lo = pos 0; hi = pos (n - 1) }

-- a child is joined to the sort that is declared next, behind so many elements, or there is its first fault
abbrev pub IsChildJoined : List (List ℕ × Sort) → List (List ℕ × Sort) → Things → Name → ℕ → Result ℕ StaticFault → Type 0
IsChildJoined old new things name before result =
    (names : Names) (further sorts joined : List (List ℕ)) → Stand things names further →
    ((n : List ℕ) → is_sort_in old n ≡ is_among sorts n) → ((n : List ℕ) → is_joined_in old n ≡ is_among joined n) →
    MatchResult result
    (λ count. (child_faults (declaring names further) sorts joined name ≡ []) × ((s : Sort) × (under name.text old ≡ Some s) × (count ≡ s.count)
    × (new ≡ insert_entry bytes_eq old name.text (record { is_sort = s.is_sort; count = s.count; parent = Some (length old, before) }))))
    (IsFaultAt (child_faults (declaring names further) sorts joined name))

-- a sort has the parent that it had, or it is one of these children, and its elements stand behind those of the children before it
abbrev pub IsJoinedTo : List TypeItem → List (List ℕ × Sort) → List Name → List ℕ → Sort → Type 0
IsJoinedTo types old children q s =
    (under q old ≡ Some s)
    ⊎ ((front : List Name) × (n : Name) × (behind : List Name) × (children ≡ front ++ n ∷ behind) × (n.text ≡ q)
    × (s.parent ≡ Some (length old, length (flat_map (elements_under (element_table types)) (texts front)))))

-- these children are joined to the sort that is declared next
pub record IsJoining (old new : List (List ℕ × Sort)) (types : List TypeItem) (children : List Name) : Type 0 where
  pub counts : map {B = List ℕ × ℕ} (λ e. (e.0, e.1.count)) new ≡ map {B = List ℕ × ℕ} (λ e. (e.0, e.1.count)) old
  pub kinds : (q : List ℕ) → is_sort_in new q ≡ is_sort_in old q
  pub parents : (q : List ℕ) → is_joined_in new q ≡ (is_joined_in old q || is_among (texts children) q)
  pub placed : (q : List ℕ) (s : Sort) → under q new ≡ Some s → IsJoinedTo types old children q s

-- children are joined, and have so many elements together, or there is the first fault
abbrev pub AreJoined : List (List ℕ × Sort) → List (List ℕ × Sort) → Things → List Name → Result ℕ StaticFault → Type 0
AreJoined old new things children result =
    (names : Names) (further : List (List ℕ)) (types : List TypeItem) → Stand things names further → AreSorts old types (flat_map children_of types) →
    let faults = children_faults (declaring names further) (flat_map sort_of types) (flat_map children_of types) children in
    MatchResult result
    (λ count. (faults ≡ []) × (count ≡ length (flat_map (elements_under (element_table types)) (texts children))) × IsJoining old new types children)
    (IsFaultAt faults)
