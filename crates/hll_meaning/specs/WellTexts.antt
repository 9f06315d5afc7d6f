-- What holds of the definitions, constraints and obligations of a text without faults.
use Rattle.std.specs.Prelude.{◌≡◌, ℕ, ◌<◌, false, [], length, Some}
use Rattle.std.specs.List.{AllByRecursion}
use Rattle.hll_tree.specs.declared.tree.Def.{Def}
use Rattle.hll_tree.specs.declared.tree.Expr.{Expr}
use Rattle.hll_tree.specs.declared.tree.HllModel.{HllModel}
use Rattle.hll_meaning.specs.Kinds.{Kind, truth, IsOf}
use Rattle.hll_meaning.specs.Names.{variable, Names, under}
use Rattle.hll_meaning.specs.Values.{History, worth}
use Rattle.hll_meaning.specs.Declarations.{names}
use Rattle.hll_meaning.specs.Runs.{variables_among, constraints, definitions, obligations, variables, AreOfKinds, scene}
use Rattle.hll_meaning.specs.Judging.{judged}
use Rattle.hll_meaning.specs.StaticRules.{Left, left_side, part_expressions, asking, Well}

-- a truth value without faults, under these names
pub record IsTruth (all : Names) (e : Expr) : Type 0 where
  pub faultless : (judged e (asking all [])).faults ≡ []
  pub kind : (judged e (asking all [])).kind ≡ truth

-- an expression without faults that goes where what is left of a variable's kind is wanted, under the index names
pub record IsGiven (all : Names) (l : Left) (e : Expr) : Type 0 where
  pub faultless : (judged e (asking all l.bound)).faults ≡ []
  pub fits : (judged e (asking all l.bound)).fits l.kind ≡ []

-- a definition of a variable that is no input, whose left side has no faults, and whose expressions are given to it
pub record IsFitting (all : Names) (d : Def) : Type 0 where
  pub kind : Kind
  pub declared : under d.name.text all ≡ Some (variable false kind)
  pub of_kind : under d.name.text (variables_among all) ≡ Some kind
  pub faultless : (left_side d.indices kind).faults ≡ []
  pub given : AllByRecursion (IsGiven all (left_side d.indices kind)) (part_expressions d.part)

-- in a text without faults each constraint and each obligation is a truth value
abbrev pub DemandsAreTruths : Type 0
DemandsAreTruths = (m : HllModel) → Well m → AllByRecursion (IsTruth (names m)) (constraints m) × AllByRecursion (IsTruth (names m)) (obligations m)

-- so at each instant of a history whose variables lie in their kinds it is 1 or 0
abbrev pub DemandsHaveTruths : Type 0
DemandsHaveTruths =
    (m : HllModel) (h : History) (t : ℕ) → Well m → AllByRecursion (AreOfKinds (variables m)) h → t < length h →
    AllByRecursion (λ e. IsOf truth (worth e (scene m h t []))) (constraints m) × AllByRecursion (λ e. IsOf truth (worth e (scene m h t []))) (obligations m)

-- in a text without faults what each definition gives fits its left side
abbrev pub DefinitionsFit : Type 0
DefinitionsFit = (m : HllModel) → Well m → AllByRecursion (IsFitting (names m)) (definitions m)
