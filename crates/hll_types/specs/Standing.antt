-- The names and sorts that are declared, as the definitions say them.
use Rattle.std.specs.Prelude.{◌≡◌, ℕ, ◌<◌, Bool, true, false, List, [], map, length, take, drop, slice_get, Option, None, Some, Result, MatchResult}
use Rattle.std.specs.Option.{option_map_or}
use Rattle.std.specs.List.{flat_map}
use Rattle.hll_tree.specs.declared.tree.Expr.{Expr}
use Rattle.hll_tree.specs.declared.tree.TypeItem.{TypeItem}
use Rattle.hll_tree.specs.declared.tree.TypeText.{TypeText}
use Rattle.hll_meaning.specs.declared.ty.Ty.{Ty}
use Rattle.hll_meaning.specs.Kinds.{Kind}
use Rattle.hll_meaning.specs.Names.{Names, later, under}
use Rattle.hll_meaning.specs.Types.{kind_of}
use Rattle.hll_meaning.specs.Soundness.{AreFine}
use Rattle.hll_meaning.specs.Declarations.{is_among, written_kind, with_dims, element_table, elements_under, root_of}
use Rattle.hll_meaning.specs.StaticRules.{declaring, written_faults, dims_faults, sort_of}
use Rattle.hll_expressions.specs.declared.faults.StaticFault.{StaticFault}
use Rattle.hll_types.specs.declared.sorts.Sort.{Sort}
use Rattle.hll_expressions.specs.declared.things.Things.{Things}
use Rattle.hll_expressions.specs.Answers.{IsFaultAt}
use Rattle.hll_expressions.specs.Things.{declared_names, names_further}

-- these names are declared, and are fine, and variables and elements of these names stand further on
pub record Stand (t : Things) (names : Names) (further : List (List ℕ)) : Type 0 where
  pub declared : declared_names t ≡ names
  pub behind : (n : List ℕ) → under n (names_further t) ≡ under n (map (λ m. (m, later)) further)
  pub fine : AreFine names

-- ---- types

-- the kind of a type as it is written after these names, or the first fault
abbrev pub IsKindWritten : Names → List (List ℕ) → TypeText → Result Ty StaticFault → Type 0
IsKindWritten names further text result =
    MatchResult result (λ t. (written_faults (declaring names further) text ≡ []) × (kind_of t ≡ written_kind names text)) (IsFaultAt (written_faults (declaring names further) text))

-- a kind with dimensions after these names, or the first fault
abbrev pub IsKindWithDims : Names → List (List ℕ) → List Expr → Kind → Result Ty StaticFault → Type 0
IsKindWithDims names further dims k result =
    MatchResult result (λ t. (dims_faults (declaring names further) dims ≡ []) × (kind_of t ≡ with_dims names dims k)) (IsFaultAt (dims_faults (declaring names further) dims))

-- ---- sorts

-- whether a name is that of a sort, and whether it has a parent
abbrev pub is_sort_in : List (List ℕ × Sort) → List ℕ → Bool
is_sort_in sorts n = option_map_or (λ s. s.is_sort) (under n sorts) false

abbrev pub has_parent : Option (ℕ × ℕ) → Bool
has_parent None = false
has_parent (Some p) = true

abbrev pub is_joined_in : List (List ℕ × Sort) → List ℕ → Bool
is_joined_in sorts n = option_map_or (λ s. has_parent s.parent) (under n sorts) false

-- a sort has the root of its parent, which stands behind it, and its elements stand one after the other among those of its parent
abbrev pub IsPlaced : List TypeItem → List (List ℕ) → List ℕ → Option (ℕ × ℕ) → Type 0
IsPlaced types names n None = Unit {0}
IsPlaced types names n (Some (parent, before)) =
    (m : List ℕ) × (slice_get names parent ≡ Some m) × (root_of types n ≡ root_of types m)
    × (let own = elements_under (element_table types) n in take (length own) (drop before (elements_under (element_table types) m)) ≡ own)
    × ((i : ℕ) → slice_get names i ≡ Some n → i < parent)

-- the enumerations and sorts of type items
pub record AreSorts (sorts : List (List ℕ × Sort)) (types : List TypeItem) (joined : List (List ℕ)) : Type 0 where
  pub counts : map {B = List ℕ × ℕ} (λ e. (e.0, e.1.count)) sorts ≡ map {B = List ℕ × ℕ} (λ x. (x.0, length x.1)) (element_table types)
  pub kinds : (n : List ℕ) → is_sort_in sorts n ≡ is_among (flat_map sort_of types) n
  pub parents : (n : List ℕ) → is_joined_in sorts n ≡ is_among joined n
  pub placed : (n : List ℕ) (s : Sort) → under n sorts ≡ Some s → IsPlaced types (map (λ e. e.0) sorts) n s.parent
