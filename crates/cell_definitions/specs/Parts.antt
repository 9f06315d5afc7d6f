-- Words for the contracts of private parts: what is kept of each variable and of each cell.
use Rattle.std.specs.Prelude.{◌≡◌, ℕ, ◌+◌, ◌<◌, List, [], ◌∷◌, ◌++◌, map, take, replicate, Contains, Option, None, Some, MatchOption}
use Rattle.std.specs.Borrow.{Bor}
use Rattle.hll_tree.specs.declared.tree.Def.{Def}
use Rattle.hll_tree.specs.declared.tree.HllModel.{HllModel}
use Rattle.hll_tree.specs.declared.tree.Slot.{Slot}
use Rattle.hll_tree.specs.declared.tree.Slot.TheVariants as slot
use Rattle.hll_meaning.specs.Cells.{text_cells}
use Rattle.hll_meaning.specs.Kinds.{Kind, truth, whole, element, array, struct, cells}
use Rattle.hll_meaning.specs.Runs.{Element, definitions, picked, variables}
use Rattle.hll_meaning.specs.StaticRules.{definitions_of, Well}
use Rattle.hll_meaning.specs.Types.{kind_of}
use Rattle.dependence.specs.Mentions.{Stretch}
use Rattle.dependence.specs.Ways.{Way, way_by}
use Rattle.cell_columns.specs.declared.columns.Column.{Column}
use Rattle.cell_columns.specs.Columns.{cell_of}
use Rattle.cell_definitions.specs.declared.definitions.Kept.{Kept}
use Rattle.cell_definitions.specs.declared.owners.Owner.{Owner}
use Rattle.cell_definitions.specs.declared.spot.Level.{Level}
use Rattle.cell_definitions.specs.declared.spot.Numbered.{Numbered}
use Rattle.cell_definitions.specs.declared.spot.Spot.{Spot}
use Rattle.cell_definitions.specs.Ways.{way_of, numbers_of}

-- ---- variables

-- one definition, or two
abbrev pub listed : Option (Bor Def) → Option (Bor Def) → List Def
listed None second = []
listed (Some d) None = d.now ∷ []
listed (Some d) (Some e) = d.now ∷ e.now ∷ []

-- the definitions that are kept
abbrev pub kept : Kept → List Def
kept k = listed k.first k.second

-- the first two definitions of a name
abbrev pub first_two : List Def → List ℕ → List Def
first_two defs name = take 2 (definitions_of defs name)

-- of each variable its first two definitions are kept
abbrev pub Gathers : HllModel → List Def → List Kept → Type 0
Gathers m defs own = map kept own ≡ map (λ x. first_two defs x.0) (variables m)

-- ---- cells

-- what is known of a cell: its variable's cells, how many they are, and the way in which these get their numbers
pub record Owned : Type 0 where
  pub stretch : Stretch
  pub count : ℕ
  pub way : Way

-- what is kept of a cell
abbrev pub owned_of : Owner → Owned
owned_of o = record { stretch = record { start = o.start; kind = kind_of o.ty.now }; count = o.count; way = way_of o.definitions }

-- what is known of the cells of a variable that begins at a cell
abbrev pub owned_at : List Def → ℕ → List ℕ × Kind → Owned
owned_at defs start x = record { stretch = record { start = start; kind = x.1 }; count = cells x.1; way = way_by (first_two defs x.0) }

-- what is known of the cells of variables of which the first begins at a cell
abbrev pub owned_from : List Def → ℕ → List (List ℕ × Kind) → List Owned
owned_from defs start [] = []
owned_from defs start (x ∷ xs) = replicate (cells x.1) (owned_at defs start x) ++ owned_from defs (start + cells x.1) xs

-- what is kept of a text without faults
pub record IsTable (m : HllModel) (columns : List Column) (owners : List Owner) : Type 0 where
  pub well : Well m
  pub columns_are : map cell_of columns ≡ text_cells m
  pub owners_are : map owned_of owners ≡ owned_from (definitions m) 0 (variables m)

-- ---- elements

-- the slots pick an element at a place of a value of a kind, with these numbers of the index names, and the place in the element
pub record IsFoundIn (slots : List Slot) (k : Kind) (place : ℕ) (numbers : List Numbered) (spot : Spot) : Type 0 where
  pub element : Element
  pub picks : Contains (picked slots k) element
  pub within : spot.place < cells element.kind
  pub is_place : place ≡ element.start + spot.place
  pub bound : element.bound ≡ numbers_of numbers
  pub kind : kind_of spot.ty.now ≡ element.kind

-- the level that an index name has in an array; a number and another kind have none
abbrev pub IsLevel : Slot → Kind → Option Level → Type 0
IsLevel (slot.Index n) truth result = result ≡ None
IsLevel (slot.Index n) (whole e) result = result ≡ None
IsLevel (slot.Index n) (element root e) result = result ≡ None
IsLevel (slot.Index n) (array size k) result = MatchOption result ⊥ (λ l. (l.name.now ≡ n.text) × (l.size ≡ size) × (kind_of l.each.now ≡ k))
IsLevel (slot.Index n) (struct name fields) result = result ≡ None
IsLevel (slot.Fixed at value) k result = result ≡ None
