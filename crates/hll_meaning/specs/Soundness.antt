-- That values lie in their ranges: the value of an expression without faults is one of the kind that the static rules give it.
use Rattle.std.specs.Prelude.{◌≡◌, ℕ, ◌≤◌, ◌<◌, ℤ, true, List, [], ◌∷◌, length}
use Rattle.std.specs.List.{AllByRecursion}
use Rattle.hll_tree.specs.declared.tree.Expr.{Expr}
use Rattle.hll_tree.specs.declared.tree.HllModel.{HllModel}
use Rattle.hll_tree.specs.declared.tree.Slot.{Slot}
use Rattle.hll_meaning.specs.Kinds.{Kind, truth, whole, element, array, struct, Fields, none, field, IsOf}
use Rattle.hll_meaning.specs.Names.{Thing, constant, type_of, code_in, variable, later, Names}
use Rattle.hll_meaning.specs.Agreement.{AgreeButElements}
use Rattle.hll_meaning.specs.Declarations.{constant_value, names}
use Rattle.hll_meaning.specs.Values.{History, Scene, worth}
use Rattle.hll_meaning.specs.Runs.{Element, picked, variables_among, AreOfKinds, scene, variables}
use Rattle.hll_meaning.specs.Fitting.{is_scalar}
use Rattle.hll_meaning.specs.Judging.{Context, judged, constant_kind}
use Rattle.hll_meaning.specs.Safety.{looked}
use Rattle.hll_meaning.specs.StaticRules.{Left, left_side, asking, declaring, pass1, pass1_faults, Well}

-- every array in a kind has an element, as dimensions are at least 1
abbrev mutual
  pub IsFineKind : Kind → Type 0
  IsFineKind truth = Unit {0}
  IsFineKind (whole e) = Unit {0}
  IsFineKind (element root e) = Unit {0}
  IsFineKind (array n k) = (1 ≤ n) × IsFineKind k
  IsFineKind (struct name fields) = AreFineFields fields

  pub AreFineFields : Fields → Type 0
  AreFineFields none = Unit {0}
  AreFineFields (field name k fields) = IsFineKind k × AreFineFields fields

-- A constant is of its kind: one that is declared as a truth value has one. A type and a variable have fine kinds, as each
-- dimension is at least 1. An element has its own code. Nothing stands further on than all names of a text.
abbrev pub IsFine : Thing → Type 0
IsFine (constant boolean x) = IsOf (constant_kind boolean x) (x ∷ [])
IsFine (type_of k) = IsFineKind k
IsFine (code_in root c) = Unit {0}
IsFine (variable input k) = IsFineKind k
IsFine later = ⊥

-- so is what each name stands for
abbrev pub AreFine : Names → Type 0
AreFine = AllByRecursion (λ x. IsFine x.1)

-- the numbers of bound and index names lie in their kinds, which are scalar
abbrev pub AreBound : List (List ℕ × ℤ) → List (List ℕ × Kind) → Type 0
AreBound [] [] = Unit {0}
AreBound [] (k ∷ ks) = ⊥
AreBound (x ∷ xs) [] = ⊥
AreBound (x ∷ xs) (k ∷ ks) = (x.0 ≡ k.0) × (is_scalar k.1 ≡ true) × IsOf k.1 (x.1 ∷ []) × AreBound xs ks

-- a scene is one of those that a context speaks of: the same fine names, at an instant of a history whose variables lie in their
-- kinds, under numbers of the bound names that lie in theirs
pub record IsSceneOf (c : Context) (s : Scene) : Type 0 where
  pub names : s.names ≡ c.names
  pub fine : AreFine c.names
  pub of_kinds : AllByRecursion (AreOfKinds (variables_among c.names)) s.history
  pub time : s.time < length s.history
  pub bound : AreBound s.bound c.bound

-- in each scene of its context an expression without faults has a value of its kind
abbrev pub ValuesLieInTheirRanges : Type 0
ValuesLieInTheirRanges = (e : Expr) (c : Context) (s : Scene) → IsSceneOf c s → (judged e c).faults ≡ [] → IsOf (judged e c).kind (worth e s)

-- where a constant is needed, the value that the static rules give an expression without faults is its value in each scene
abbrev pub ConstantsHaveTheirValues : Type 0
ConstantsHaveTheirValues = (e : Expr) (c : Context) (s : Scene) → IsSceneOf c s → c.needs_constant ≡ true → (judged e c).faults ≡ [] → (judged e c).value ≡ worth e s

-- a constant that is declared after fine names has the value that the static rules give it, and that lies in its kind
abbrev pub DeclaredConstantsHaveTheirValues : Type 0
DeclaredConstantsHaveTheirValues =
    (before : Names) (further : List (List ℕ)) (e : Expr) → AreFine before → (judged e (declaring before further)).faults ≡ [] →
    ((judged e (declaring before further)).value ≡ constant_value before e) × IsOf (judged e (declaring before further)).kind (constant_value before e)

-- what is looked at of an expression has its worth
abbrev pub WorthsAreLookedAt : Type 0
WorthsAreLookedAt = (e : Expr) (s : Scene) → (looked e).worth s ≡ worth e s

-- ---- texts

-- where pass 1 finds no fault, its names agree with those of the text but for the roots and codes of elements
abbrev pub NamesOfPass1Agree : Type 0
NamesOfPass1Agree = (m : HllModel) → pass1_faults m ≡ [] → AgreeButElements (pass1 m).names (names m)

-- the names of a text without faults are fine
abbrev pub NamesAreFine : Type 0
NamesAreFine = (m : HllModel) → Well m → AreFine (names m)

-- so in a text without faults, at each instant of a history whose variables lie in their kinds, and under numbers of bound names
-- that lie in theirs, an expression without faults has a value of its kind
abbrev pub ValuesOfTextsLieInTheirRanges : Type 0
ValuesOfTextsLieInTheirRanges =
    (m : HllModel) (h : History) (t : ℕ) (bound : List (List ℕ × ℤ)) (kinds : List (List ℕ × Kind)) (e : Expr) →
    Well m → AllByRecursion (AreOfKinds (variables m)) h → t < length h → AreBound bound kinds → (judged e (asking (names m) kinds)).faults ≡ [] →
    IsOf (judged e (asking (names m) kinds)).kind (worth e (scene m h t bound))

-- what the left side of a definition has for an element that it picks: numbers of the index names in their kinds, and its kind
pub record IsPickedBy (l : Left) (e : Element) : Type 0 where
  pub bound : AreBound e.bound l.bound
  pub kind : e.kind ≡ l.kind

-- a left side without faults has that for each element that it picks in a variable of a kind
abbrev pub IndicesLieInTheirRanges : Type 0
IndicesLieInTheirRanges = (slots : List Slot) (k : Kind) → (left_side slots k).faults ≡ [] → AllByRecursion (IsPickedBy (left_side slots k)) (picked slots k)
