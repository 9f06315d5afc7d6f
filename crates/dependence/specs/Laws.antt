-- What holds of the cells that expressions mention and that cells depend on.
use Rattle.std.specs.Prelude.{◌≡◌, ℕ, ◌<◌, true, List, [], Some, length}
use Rattle.std.specs.List.{AllByRecursion, slice_index_or}
use Rattle.std.specs.Prelude.{ℤ, pos}
use Rattle.hll_tree.specs.declared.tree.Def.{Def}
use Rattle.hll_tree.specs.declared.tree.Expr.{Expr}
use Rattle.hll_tree.specs.declared.tree.HllModel.{HllModel}
use Rattle.hll_meaning.specs.Kinds.{Kind, truth, whole, element, array, struct, Fields, none, field, cells}
use Rattle.hll_meaning.specs.Names.{type_of, Names, under}
use Rattle.hll_meaning.specs.Declarations.{names}
use Rattle.hll_meaning.specs.Judging.{judged}
use Rattle.hll_meaning.specs.Runs.{Element, AreOfKinds, constraints, definitions, obligations, scene, variables}
use Rattle.hll_meaning.specs.Soundness.{AreBound}
use Rattle.hll_meaning.specs.StaticRules.{asking, part_expressions, Well}
use Rattle.hll_meaning.specs.Texts.{HasText}
use Rattle.hll_meaning.specs.Values.{History, Scene, worth}
use Rattle.dependence.specs.Links.{linked}
use Rattle.dependence.specs.Mentions.{mentioning}
use Rattle.dependence.specs.Dependence.{cell_count, Depends, IsDefinedBy}
use Rattle.dependence.specs.Rows.{number_at}

-- what is said of an expression has its worth
abbrev pub WorthsAreMentioned : Type 0
WorthsAreMentioned = (e : Expr) (s : Scene) → (mentioning e).worth s ≡ worth e s

-- the same names and bound names, whatever the history and the time
pub record AreAlike (s other : Scene) : Type 0 where
  pub names : s.names ≡ other.names
  pub bound : s.bound ≡ other.bound

-- a static expression has one value at all instants of all histories
abbrev pub StaticsAreConstant : Type 0
StaticsAreConstant = (e : Expr) (s other : Scene) → AreAlike s other → (mentioning e).static s ≡ true → worth e s ≡ worth e other

-- each struct in a kind is what its name stands for
abbrev mutual
  pub HasStructsOf : Names → Kind → Type 0
  HasStructsOf ns truth = Unit {0}
  HasStructsOf ns (whole e) = Unit {0}
  HasStructsOf ns (element root e) = Unit {0}
  HasStructsOf ns (array n k) = HasStructsOf ns k
  HasStructsOf ns (struct own fields) = (under own ns ≡ Some (type_of (struct own fields))) × HaveStructsOf ns fields

  pub HaveStructsOf : Names → Fields → Type 0
  HaveStructsOf ns none = Unit {0}
  HaveStructsOf ns (field own k fields) = HasStructsOf ns k × HaveStructsOf ns fields

-- where an expression without faults stands: under names of kinds, given to a kind of the text; each chain in it has a link
pub record IsGivenTo (m : HllModel) (bound : List (List ℕ × ℤ)) (e : Expr) (k : Kind) : Type 0 where
  pub kinds : List (List ℕ × Kind)
  pub are_bound : AreBound bound kinds
  pub faultless : (judged e (asking (names m) kinds)).faults ≡ []
  pub fits : (judged e (asking (names m) kinds)).fits k ≡ []
  pub of_text : HasStructsOf (names m) k
  pub linked : linked e ≡ true

-- in a spelled text each chain of a definition, a constraint or an obligation has a link
pub record IsLinkedText (m : HllModel) : Type 0 where
  pub definitions : AllByRecursion (λ d. AllByRecursion (λ e. linked e ≡ true) (part_expressions d.part)) (definitions m)
  pub constraints : AllByRecursion (λ e. linked e ≡ true) (constraints m)
  pub obligations : AllByRecursion (λ e. linked e ≡ true) (obligations m)

-- spelled texts have a link in each chain
abbrev pub SpelledTextsAreLinked : Type 0
SpelledTextsAreLinked = (m : HllModel) → HasText m → IsLinkedText m

-- in a text without faults each cell that is mentioned is one of the text
abbrev pub MentionedCellsAreCells : Type 0
MentionedCellsAreCells =
    (m : HllModel) (bound : List (List ℕ × ℤ)) (e : Expr) (k : Kind) (place : ℕ) → Well m → IsGivenTo m bound e k → place < cells k →
    AllByRecursion (λ c. c < cell_count m) ((mentioning e).cells k place (scene m [] 0 bound))

-- two histories agree up to a time, and at that time on these cells
pub record AgreeOn (t : ℕ) (g h : History) (cs : List ℕ) : Type 0 where
  pub before : (u : ℕ) → u < t → slice_index_or g u [] ≡ slice_index_or h u []
  pub now : AllByRecursion (λ c. number_at g t c ≡ number_at h t c) cs

-- a history of values in their kinds that goes up to a time
pub record GoesTo (m : HllModel) (t : ℕ) (h : History) : Type 0 where
  pub of_kinds : AllByRecursion (AreOfKinds (variables m)) h
  pub within : t < length h

-- in a text without faults a place of an expression's value goes by the cells that it mentions for that place, and by what was before
abbrev pub ValuesGoByMentionedCells : Type 0
ValuesGoByMentionedCells =
    (m : HllModel) (bound : List (List ℕ × ℤ)) (e : Expr) (k : Kind) (place t : ℕ) (g h : History) →
    Well m → IsGivenTo m bound e k → place < cells k → GoesTo m t g → GoesTo m t h →
    AgreeOn t g h ((mentioning e).cells k place (scene m [] 0 bound)) →
    slice_index_or (worth e (scene m g t bound)) place (pos 0) ≡ slice_index_or (worth e (scene m h t bound)) place (pos 0)

-- in a spelled text without faults a cell depends on cells of the text
abbrev pub DependOnCells : Type 0
DependOnCells = (m : HllModel) (cell other : ℕ) → HasText m → Well m → Depends m cell other → (cell < cell_count m) × (other < cell_count m)

-- a definition picks a cell in one way
abbrev pub DefinedInOneWay : Type 0
DefinedInOneWay =
    (m : HllModel) (cell : ℕ) (d : Def) (e f : Element) (place other : ℕ) → Well m →
    IsDefinedBy m cell d e place → IsDefinedBy m cell d f other → (e ≡ f) × (place ≡ other)
