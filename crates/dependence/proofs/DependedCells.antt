-- Cells depend on cells of the text: the expressions of definitions are given to the elements that these pick.
use Rattle.std.proofs.Common.{◌≡◌, ℕ, ◌<◌, true, List, [], ◌∷◌, Some, sym, subst, ◌∙◌}
use Rattle.std.specs.List.{AllByRecursion, Contains}
use Rattle.hll_tree.specs.declared.tree.Def.{Def}
use Rattle.hll_tree.specs.declared.tree.Expr.{Expr}
use Rattle.hll_tree.specs.declared.tree.HllModel.{HllModel}
use Rattle.hll_tree.specs.declared.tree.Part.{Part}
use Rattle.hll_tree.specs.declared.tree.Part.TheVariants as part
use Rattle.hll_tree.specs.declared.tree.Slot.{Slot}
use Rattle.hll_tree.specs.declared.tree.Slot.TheVariants as slot
use Rattle.hll_meaning.specs.Declarations.{names}
use Rattle.hll_meaning.specs.Judging.{judged}
use Rattle.hll_meaning.specs.Kinds.{Kind, truth, whole, element, array, struct}
use Rattle.hll_meaning.specs.Names.{Names}
use Rattle.hll_meaning.specs.Runs.{Element, definitions, picked, scene}
use Rattle.hll_meaning.specs.Soundness.{IsPickedBy}
use Rattle.hll_meaning.specs.StaticRules.{Left, left_side, part_expressions, asking, Well}
use Rattle.hll_meaning.specs.Texts.{HasText}
use Rattle.hll_meaning.specs.WellTexts.{IsGiven, IsFitting}
use Rattle.hll_meaning.proofs.Indices.{picked_bound}
use Rattle.hll_meaning.proofs.WellTexts.{definitions_fit}
use Rattle.dependence.specs.CellRuns.{IsOfDefinition}
use Rattle.dependence.specs.Dependence.{cell_count, part_cells, IsDefinedBy}
use Rattle.dependence.specs.Laws.{HasStructsOf, IsGivenTo, DependOnCells}
use Rattle.dependence.specs.Links.{linked}
use Rattle.dependence.specs.Mentions.{mentioning}
use Rattle.dependence.proofs.DeclaredKinds.{names_of_text}
use Rattle.dependence.proofs.DefinedCells.{defined_within}
use Rattle.dependence.proofs.LinkedTexts.{linked_texts}
use Rattle.dependence.proofs.Members.{all_hold, in_front, in_none}
use Rattle.dependence.proofs.MentionedCells.{mentioned_cells}
use Rattle.dependence.proofs.Picks.{AreLevels, levels_of}
use Rattle.dependence.proofs.Setting.{of_definition}

-- what is left of a kind behind levels of arrays has its structs
levels_structs : (ns : Names) (ss : List Slot) (k each : Kind) → AreLevels ss k each → HasStructsOf ns k → HasStructsOf ns each
levels_structs ns [] k each same h = subst (HasStructsOf ns) same h
levels_structs ns (slot.Index n ∷ ss) truth each l h = absurd l
levels_structs ns (slot.Index n ∷ ss) (whole e) each l h = absurd l
levels_structs ns (slot.Index n ∷ ss) (element root e) each l h = absurd l
levels_structs ns (slot.Index n ∷ ss) (array size k) each l h = levels_structs ns ss k each l h
levels_structs ns (slot.Index n ∷ ss) (struct own fields) each l h = absurd l
levels_structs ns (slot.Fixed at value ∷ ss) k each l h = absurd l

module _ (m : HllModel) (text : HasText m) (well : Well m) (e : Element) (expr : Expr) (of : IsOfDefinition m e expr) where
  fits : IsFitting (names m) of.definition
  fits = all_hold (IsFitting (names m)) (definitions m) of.definition (definitions_fit m well) of.stands

  abbrev left : Left
  left = left_side of.definition.indices fits.kind

  picked_by : IsPickedBy left e
  picked_by =
      let found : Some of.kind ≡ Some fits.kind = sym of.of_kind ∙ fits.of_kind in
      let same : of.kind ≡ fits.kind = cc found in
      all_hold (IsPickedBy left) (picked of.definition.indices fits.kind) e (picked_bound of.definition.indices fits.kind fits.faultless) (subst (λ k. Contains (picked of.definition.indices k) e) same of.picks)

  given : IsGiven (names m) left expr
  given = all_hold (IsGiven (names m) left) (part_expressions of.definition.part) expr fits.given of.gives

  structs : HasStructsOf (names m) left.kind
  structs = levels_structs (names m) of.definition.indices fits.kind left.kind (levels_of of.definition.indices fits.kind fits.faultless) ((names_of_text m well).structs of.definition.name.text _ fits.kind fits.declared)

  has_links : linked expr ≡ true
  has_links =
      let all = all_hold (λ (d : Def). AllByRecursion (λ x. linked x ≡ true) (part_expressions d.part)) (definitions m) of.definition (linked_texts m text).definitions of.stands in
      all_hold (λ x. linked x ≡ true) (part_expressions of.definition.part) expr all of.gives

  -- an expression of a definition is given to each element that the definition picks
  pub given_in_definition : IsGivenTo m e.bound expr e.kind
  given_in_definition = record {
    kinds = left.bound;
    are_bound = picked_by.bound;
    faultless = given.faultless;
    fits = subst (λ (k : Kind). (judged expr (asking (names m) left.bound)).fits k ≡ []) (sym picked_by.kind) given.fits;
    of_text = subst (HasStructsOf (names m)) (sym picked_by.kind) structs;
    linked = has_links;
  }

-- an expression of a definition of a cell is given to the element in which the cell stands
pub given_to : (m : HllModel) → HasText m → Well m → (cell : ℕ) (d : Def) (e : Element) (place : ℕ) → IsDefinedBy m cell d e place → (expr : Expr) → Contains (part_expressions d.part) expr → IsGivenTo m e.bound expr e.kind
given_to m text well cell d e place by expr gives = given_in_definition m text well e expr (of_definition m cell d e place expr by gives)

module _ (m : HllModel) (text : HasText m) (well : Well m) (cell other : ℕ) (d : Def) (e : Element) (place : ℕ) (by : IsDefinedBy m cell d e place) where
  of_expression : (expr : Expr) → Contains (part_expressions d.part) expr → Contains ((mentioning expr).cells e.kind place (scene m [] 0 e.bound)) other → other < cell_count m
  of_expression expr gives h =
      all_hold (λ c. c < cell_count m) ((mentioning expr).cells e.kind place (scene m [] 0 e.bound)) other (mentioned_cells m e.bound expr e.kind place well (given_to m text well cell d e place by expr gives) by.within) h

  of_part : (p : Part) → ((expr : Expr) → Contains (part_expressions p) expr → Contains (part_expressions d.part) expr) → Contains (part_cells p e.kind place (scene m [] 0 e.bound)) other → other < cell_count m
  of_part (part.Value x) among h = of_expression x (among x (in_front x [])) h
  of_part (part.Both first next) among h = of_expression first (among first (in_front first (next ∷ []))) h
  of_part (part.First first) among h = of_expression first (among first (in_front first [])) h
  of_part (part.Next next) among h = absurd (in_none other h)

-- cells depend on cells of the text
pub depend_on_cells : DependOnCells
depend_on_cells m cell other text well h = (
  defined_within m cell h.definition h.element h.place well h.defined,
  of_part m text well cell other h.definition h.element h.place h.defined h.definition.part (λ expr gives. gives) h.mentions,
)
