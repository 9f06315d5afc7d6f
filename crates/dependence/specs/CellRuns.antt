-- What a run says of each cell at each time, and how cells that are set one after the other make a run.
use Rattle.std.specs.Prelude.{◌≡◌, ◌↔◌, ℕ, ◌+◌, ◌<◌, ℤ, pos, List, [], Contains, Some, length, take}
use Rattle.std.specs.List.{AllByRecursion, slice_index, slice_index_or}
use Rattle.hll_tree.specs.declared.tree.Def.{Def}
use Rattle.hll_tree.specs.declared.tree.Expr.{Expr}
use Rattle.hll_tree.specs.declared.tree.HllModel.{HllModel}
use Rattle.hll_tree.specs.declared.tree.Part.{Part}
use Rattle.hll_tree.specs.declared.tree.Part.TheVariants as part
use Rattle.hll_meaning.specs.Kinds.{Kind, cells}
use Rattle.hll_meaning.specs.Names.{under}
use Rattle.hll_meaning.specs.Runs.{Element, AreOfKinds, IsRun, definitions, given_at, picked, scene, variables}
use Rattle.hll_meaning.specs.StaticRules.{part_expressions, Well}
use Rattle.hll_meaning.specs.Texts.{HasText}
use Rattle.hll_meaning.specs.Values.{History, worth}
use Rattle.dependence.specs.Causality.{IsCellOrder}
use Rattle.dependence.specs.Dependence.{IsDefinedBy}
use Rattle.dependence.specs.Laws.{AgreeOn, GoesTo}
use Rattle.dependence.specs.Mentions.{mentioning}
use Rattle.dependence.specs.Rows.{number_at}

-- the number that an expression gives to a place of an element at a time
abbrev pub number_given : HllModel → History → ℕ → Element → ℕ → Expr → ℤ
number_given m h t e place expr = slice_index_or (given_at m h t e expr) place (pos 0)

-- at time 0 the number is what the expression gives then
abbrev pub IsFirstNumber : HllModel → History → ℕ → Element → ℕ → Expr → ℤ → Type 0
IsFirstNumber m h t e place expr x = t ≡ 0 → x ≡ number_given m h 0 e place expr

-- at every time but 0 the number is what the expression gave at the time before
abbrev pub IsNextNumber : HllModel → History → ℕ → Element → ℕ → Expr → ℤ → Type 0
IsNextNumber m h t e place expr x = (before : ℕ) → t ≡ before + 1 → x ≡ number_given m h before e place expr

-- the number is what a part of a definition gives to a place of an element at a time
abbrev pub IsGivenBy : HllModel → History → ℕ → Element → ℕ → Part → ℤ → Type 0
IsGivenBy m h t e place (part.Value expr) x = x ≡ number_given m h t e place expr
IsGivenBy m h t e place (part.Both first next) x = IsFirstNumber m h t e place first x × IsNextNumber m h t e place next x
IsGivenBy m h t e place (part.First first) x = IsFirstNumber m h t e place first x
IsGivenBy m h t e place (part.Next next) x = IsNextNumber m h t e place next x

-- the number is what each definition of a cell gives it at a time, over a history
abbrev pub IsCellGiven : HllModel → History → ℕ → ℕ → ℤ → Type 0
IsCellGiven m h t cell x = (d : Def) (e : Element) (place : ℕ) → IsDefinedBy m cell d e place → IsGivenBy m h t e place d.part x

-- the values are of their kinds, and each cell has at each time the number that its definitions give it
pub record IsCellRun (m : HllModel) (h : History) : Type 0 where
  pub of_kinds : AllByRecursion (AreOfKinds (variables m)) h
  pub given : (t cell : ℕ) → t < length h → IsCellGiven m h t cell (number_at h t cell)

-- At a time the cell at a place of an order has the number that its definitions give it over some history up to that time. Before
-- that time this history is the same, and at that time it has the same numbers of the cells in front of the place.
pub record IsSet (m : HllModel) (order : List ℕ) (h : History) (t place : ℕ) : Type 0 where
  pub over : History
  pub goes : GoesTo m t over
  pub agrees : AgreeOn t over h (take place order)
  pub given : IsCellGiven m over t (slice_index order place) (number_at h t (slice_index order place))

-- all cells are set in an order, at each time
pub record AreSet (m : HllModel) (order : List ℕ) (h : History) : Type 0 where
  pub of_kinds : AllByRecursion (AreOfKinds (variables m)) h
  pub set : (t place : ℕ) → t < length h → place < length order → IsSet m order h t place

-- an expression that a definition gives to an element that it picks
pub record IsOfDefinition (m : HllModel) (e : Element) (expr : Expr) : Type 0 where
  pub definition : Def
  pub kind : Kind
  pub stands : Contains (definitions m) definition
  pub of_kind : under definition.name.text (variables m) ≡ Some kind
  pub picks : Contains (picked definition.indices kind) e
  pub gives : Contains (part_expressions definition.part) expr

-- what a definition gives to a place goes by the cells that its expression mentions for it, and by what was before
abbrev pub GivenNumbersGo : HllModel → Type 0
GivenNumbersGo m =
    (e : Element) (expr : Expr) (place t : ℕ) (g h : History) → IsOfDefinition m e expr → place < cells e.kind → GoesTo m t g → GoesTo m t h →
    AgreeOn t g h ((mentioning expr).cells e.kind place (scene m [] 0 e.bound)) → number_given m g t e place expr ≡ number_given m h t e place expr

-- what a definition gives has a number for each cell of the element
abbrev pub GivenValuesHaveCells : HllModel → Type 0
GivenValuesHaveCells m =
    (e : Element) (expr : Expr) (t : ℕ) (h : History) → IsOfDefinition m e expr → GoesTo m t h → length (worth expr (scene m h t e.bound)) ≡ cells e.kind

-- in a spelled text without faults cells that are set in an order make a run
abbrev pub SettingMakesRuns : Type 0
SettingMakesRuns = (m : HllModel) (order : List ℕ) (h : History) → HasText m → Well m → IsCellOrder m order → AreSet m order h → IsCellRun m h

-- in a spelled text without faults runs are what they are cell by cell
abbrev pub RunsGoByCells : Type 0
RunsGoByCells = (m : HllModel) (h : History) → HasText m → Well m → IsRun m h ↔ IsCellRun m h
