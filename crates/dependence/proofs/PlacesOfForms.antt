-- The number at a place of the value of an expression that is given to a kind, form by form: of a group it is that of the part which
-- holds the place, of an `if` that of the branch taken, of a path into a variable that in the row of all cells. All else is a scalar.
use Rattle.std.proofs.Common.{◌≡◌, ℕ, zero, suc, ◌+◌, ◌-◌, ◌*◌, ◌<◌, ◌≤◌, inl, ℤ, true, false, List, [], ◌∷◌, map, drop, length, Some, None, refl, sym, ap, subst, ◌∙◌, arith}
use Rattle.std.specs.Prelude.{slice_index_or}
use Rattle.std.specs.List.{AllByRecursion, Contains, flat_map, range_with_len}
use Rattle.hll_tree.specs.declared.tree.Branch.{Branch}
use Rattle.hll_tree.specs.declared.tree.Expr.{Expr}
use Rattle.hll_tree.specs.declared.tree.Form.{Path, Choice, Group}
use Rattle.hll_tree.specs.declared.tree.HllModel.{HllModel}
use Rattle.hll_tree.specs.declared.tree.Name.{Name}
use Rattle.hll_tree.specs.declared.tree.Reach.{Reach}
use Rattle.hll_meaning.specs.Declarations.{names}
use Rattle.hll_meaning.specs.Fitting.{is_scalar, accepts, parts}
use Rattle.hll_meaning.specs.Judging.{Context, Judged, all_in, choice_of, judged}
use Rattle.hll_meaning.specs.Kinds.{Kind, array, Step, cells}
use Rattle.hll_meaning.specs.Names.{under}
use Rattle.hll_meaning.specs.Runs.{scene, variables}
use Rattle.hll_meaning.specs.StaticRules.{asking, Well}
use Rattle.hll_meaning.specs.Values.{History, Scene, bound_value, thing_value, worth}
use Rattle.hll_meaning.proofs.Faultless.{must_be, both}
use Rattle.hll_meaning.proofs.JudgedForms.{branch_said as judged_branch, reach_said as judged_reach, judged-path, judged-choice, judged-group}
use Rattle.hll_meaning.proofs.Scenes.{by_test}
use Rattle.hll_meaning.proofs.WorthForms.{reach_worth, worth-path}
use Rattle.dependence.specs.Laws.{IsGivenTo, GoesTo}
use Rattle.dependence.specs.Links.{linked, all_linked}
use Rattle.dependence.specs.Mentions.{Stretch, Pick, stretch_of, reached}
use Rattle.dependence.specs.Rows.{number_at}
use Rattle.dependence.proofs.Branches.{AreBranches, IsAccepted, accepted_choice, fitting_choice}
use Rattle.dependence.proofs.Declared.{scalar_cell}
use Rattle.dependence.proofs.DeclaredKinds.{names_of_text}
use Rattle.dependence.proofs.DefinedCells.{is_stretch}
use Rattle.dependence.proofs.FittingForms.{scalar_fits, fits_scalar, IsListForm, list_form}
use Rattle.dependence.proofs.GivenKinds.{unbound_over}
use Rattle.dependence.proofs.GivenParts.{AreGivenParts, given_group}
use Rattle.dependence.proofs.Linked.{branch_linked, linked-choice, linked-group}
use Rattle.dependence.proofs.MentionedCells.{bound_over}
use Rattle.dependence.proofs.Numbers.{number_of, in_front_of, behind_front}
use Rattle.dependence.proofs.PlacesOfPaths.{value_reached, path_at}
use Rattle.dependence.proofs.Reached.{ArePicksOf}
use Rattle.dependence.proofs.StepsOfPaths.{steps_as_said}
use Rattle.dependence.proofs.ValuesHaveCells.{values_of, given_value_has_cells}

-- ---- scalars and lists

-- what is given to a scalar is one
pub scalar_given : (m : HllModel) (bound : List (List ℕ × ℤ)) (e : Expr) (k : Kind) (given : IsGivenTo m bound e k) → is_scalar k ≡ true → is_scalar (judged e (asking (names m) given.kinds)).kind ≡ true
scalar_given m bound e k given scalar = fits_scalar e (asking (names m) given.kinds) k given.faultless given.fits scalar

-- a scalar has one place
pub scalar_place : (k : Kind) (place : ℕ) → is_scalar k ≡ true → place < cells k → place ≡ 0
scalar_place k place scalar below = omega (arith, below, scalar_cell k scalar)

-- what is given to a list is a path, an `if` or a group
pub list_given : (m : HllModel) (bound : List (List ℕ × ℤ)) (e : Expr) (k : Kind) → IsGivenTo m bound e k → is_scalar k ≡ false → IsListForm e
list_given m bound e k given list = list_form (names m) given.kinds k list e given.linked given.faultless (inl (given.of_text, given.fits))

told : (e : Expr) (c : Context) (j : Judged) → judged e c ≡ j → (judged e c).faults ≡ [] → j.faults ≡ []
told e c j is none = sym (ap (λ (x : Judged). x.faults) is) ∙ none

fits_as : (e : Expr) (c : Context) (j : Judged) (k : Kind) → judged e c ≡ j → (judged e c).fits k ≡ [] → j.fits k ≡ []
fits_as e c j k is fit = subst (λ (x : Judged). x.fits k ≡ []) is fit

-- ---- groups

-- one part for each kind, and given to it
abbrev pub PartsAreGiven : HllModel → List (List ℕ × ℤ) → List Expr → List Kind → Type 0
PartsAreGiven m bound [] [] = Unit {0}
PartsAreGiven m bound [] (k ∷ kinds) = ⊥
PartsAreGiven m bound (e ∷ es) [] = ⊥
PartsAreGiven m bound (e ∷ es) (k ∷ kinds) = IsGivenTo m bound e k × PartsAreGiven m bound es kinds

module _ (m : HllModel) (bound : List (List ℕ × ℤ)) where
  all_given : (whole : Expr) (k : Kind) (given : IsGivenTo m bound whole k) (es : List Expr) (kinds : List Kind) → AreGivenParts (names m) given.kinds es kinds → PartsAreGiven m bound es kinds
  all_given whole k given [] [] h = tt
  all_given whole k given [] (l ∷ kinds) h = h
  all_given whole k given (e ∷ es) [] h = h
  all_given whole k given (e ∷ es) (l ∷ kinds) h =
      (record { kinds = given.kinds; are_bound = given.are_bound; faultless = h.0.faultless; fits = h.0.fits; of_text = h.0.structs; linked = h.0.links }, all_given whole k given es kinds h.1)

  -- a group is given to a list, and its parts to the parts of it
  pub group_given : (e : Expr) (k : Kind) (es : List Expr) → IsGivenTo m bound e k → e.form ≡ Group es → (is_scalar k ≡ false) × PartsAreGiven m bound es (parts k)
  group_given e k es given is =
      let c = asking (names m) given.kinds in
      let own = judged-group e es is c in
      let h = given_group (names m) given.kinds e.at es k (linked-group e es is given.linked) (told e c _ own given.faultless) (inl (given.of_text, fits_as e c _ k own given.fits)) in
      (h.0, all_given e k given es (parts k) h.1)

  elements_from : (l : Kind) (a n : ℕ) (es : List Expr) → PartsAreGiven m bound es (flat_map (λ i. l ∷ []) (range_with_len a n)) → (length es ≡ n) × AllByRecursion (λ e. IsGivenTo m bound e l) es
  elements_from l a zero [] h = (refl, tt)
  elements_from l a zero (e ∷ es) h = absurd h
  elements_from l a (suc n) [] h = absurd h
  elements_from l a (suc n) (e ∷ es) h = let rest = elements_from l (a + 1) n es h.1 in (ap suc rest.0, (h.0, rest.1))

  -- the parts of an array are its elements
  pub elements_given : (n : ℕ) (l : Kind) (es : List Expr) → PartsAreGiven m bound es (parts (array n l)) → (length es ≡ n) × AllByRecursion (λ e. IsGivenTo m bound e l) es
  elements_given n l es h = elements_from l 0 n es h

  module _ (h : History) (t : ℕ) (well : Well m) (goes : GoesTo m t h) where
    -- the place is in the first part
    pub part_holds : (e : Expr) (es : List Expr) (k : Kind) (place : ℕ) → IsGivenTo m bound e k → place < cells k → number_of (values_of (e ∷ es) (scene m h t bound)) place ≡ number_of (worth e (scene m h t bound)) place
    part_holds e es k place given below = in_front_of (worth e (scene m h t bound)) (values_of es (scene m h t bound)) (cells k) place (given_value_has_cells m bound e k t h well given goes) below

    -- or in those behind it
    pub part_behind : (e : Expr) (es : List Expr) (k : Kind) (place : ℕ) → IsGivenTo m bound e k → cells k ≤ place → number_of (values_of (e ∷ es) (scene m h t bound)) place ≡ number_of (values_of es (scene m h t bound)) (place - cells k)
    part_behind e es k place given above = behind_front (worth e (scene m h t bound)) (values_of es (scene m h t bound)) (cells k) place (given_value_has_cells m bound e k t h well given goes) above

    -- behind so many elements
    pub elements_behind : (l : Kind) (es : List Expr) (i rest place : ℕ) → AllByRecursion (λ e. IsGivenTo m bound e l) es → i ≤ length es → place ≡ i * cells l + rest →
        number_of (values_of es (scene m h t bound)) place ≡ number_of (values_of (drop i es) (scene m h t bound)) rest
    elements_behind l es zero rest place given within is = ap (number_of (values_of es (scene m h t bound))) same
      where
        same : place ≡ rest
        same = omega (arith, is)
    elements_behind l [] (suc i) rest place given within is = absurd (omega (arith, within))
    elements_behind l (e ∷ es) (suc i) rest place given within is =
        part_behind e es l place given.0 above ∙ elements_behind l es i rest (place - cells l) given.1 (omega (arith, within)) moved
      where
        above : cells l ≤ place
        above = omega (arith, is)

        moved : place - cells l ≡ i * cells l + rest
        moved = omega (arith, is)

-- ---- choices

-- a branch that is given to a kind, behind a scalar condition without faults
pub record IsBranchGiven (m : HllModel) (bound : List (List ℕ × ℤ)) (kinds : List (List ℕ × Kind)) (k : Kind) (b : Branch) : Type 0 where
  pub links : linked b.when ≡ true
  pub faultless : (judged b.when (asking (names m) kinds)).faults ≡ []
  pub scalar : is_scalar (judged b.when (asking (names m) kinds)).kind ≡ true
  pub gives : IsGivenTo m bound b.gives k

pub record AreBranchesGiven (m : HllModel) (bound : List (List ℕ × ℤ)) (kinds : List (List ℕ × Kind)) (k : Kind) (bs : List Branch) (other : Expr) : Type 0 where
  pub each : AllByRecursion (IsBranchGiven m bound kinds k) bs
  pub otherwise : IsGivenTo m bound other k

module _ (m : HllModel) (bound : List (List ℕ × ℤ)) (e : Expr) (k : Kind) (given : IsGivenTo m bound e k) where
  abbrev here : Context
  here = asking (names m) given.kinds

  one_given : (x : Expr) → linked x ≡ true → (judged x here).faults ≡ [] → (judged x here).fits k ≡ [] → IsGivenTo m bound x k
  one_given x l none fit = record { kinds = given.kinds; are_bound = given.are_bound; faultless = none; fits = fit; of_text = given.of_text; linked = l }

  from_branches : (P : Judged → Type 0) → ((x : Expr) → P (judged x here) → (judged x here).fits k ≡ []) → (bs : List Branch) (otherwise : Expr) → all_linked (map branch_linked bs) ≡ true → linked otherwise ≡ true →
      AreBranches P (all_in here (map judged_branch bs)) (judged otherwise here) → AreBranchesGiven m bound given.kinds k bs otherwise
  from_branches P fit [] otherwise l last are = record { each = tt; otherwise = one_given otherwise last are.faultless (fit otherwise are.has) }
  from_branches P fit (b ∷ bs) otherwise l last are =
      let p = both (branch_linked b) _ l in
      let q = both (linked b.when) _ p.0 in
      let own = are.each.0 in
      let rest = from_branches P fit bs otherwise p.1 last (record { each = are.each.1; faultless = are.faultless; has = are.has }) in
      record {
        each = (record { links = q.0; faultless = own.condition_faultless; scalar = own.condition_scalar; gives = one_given b.gives q.1 own.faultless (fit b.gives own.has) }, rest.each);
        otherwise = rest.otherwise;
      }

  -- the branches of an `if` are given to what it is given to
  pub choice_given : (bs : List Branch) (otherwise : Expr) → e.form ≡ Choice bs otherwise → AreBranchesGiven m bound given.kinds k bs otherwise
  choice_given bs otherwise is =
      let own = judged-choice e bs otherwise is here in
      let p = both (all_linked (map branch_linked bs)) _ (linked-choice e bs otherwise is given.linked) in
      let none = told e here _ own given.faultless in
      let fit = fits_as e here _ k own given.fits in
      let js = all_in here (map judged_branch bs) in
      let j = judged otherwise here in
      by_test (is_scalar (choice_of e.at js j).kind)
      (λ scalar. from_branches (IsAccepted k) (λ x a. scalar_fits x here k a.0 a.1) bs otherwise p.0 p.1 (accepted_choice k e.at js j none scalar (must_be (accepts k (choice_of e.at js j).kind) _ e.at (rw scalar at fit))))
      (λ list. from_branches (λ i. i.fits k ≡ []) (λ x a. a) bs otherwise p.0 p.1 (fitting_choice e.at js j none k list fit))

-- ---- paths

-- the steps of a path
abbrev pub steps_in : List Reach → Scene → List Step
steps_in rs s = map (λ r. r s) (map reach_worth rs)

-- A path reaches one of the places at which its picks may begin. From there on its numbers stand in the row of all cells.
pub record IsPathInRow (m : HllModel) (h : History) (t : ℕ) (bound : List (List ℕ × ℤ)) (e : Expr) (k : Kind) (x : Stretch) (ps : List Pick) : Type 0 where
  pub at : ℕ
  pub is_one : Contains (reached x.kind ps) at
  pub within : at + cells k ≤ cells x.kind
  pub numbers : (place : ℕ) → place < cells k → number_of (worth e (scene m h t bound)) place ≡ number_at h t (x.start + at + place)

module _ (m : HllModel) (bound : List (List ℕ × ℤ)) (e : Expr) (n : Name) (rs : List Reach) (is : e.form ≡ Path n rs) (free : under n.text bound ≡ None) (x : Stretch) (stretch : stretch_of (variables m) n.text ≡ Some x) (h : History) (t : ℕ) (well : Well m) where
  -- what a path into a variable is worth
  path_worth : worth e (scene m h t bound) ≡ value_reached (names m) (slice_index_or h t []) n.text (steps_in rs (scene m h t bound))
  path_worth =
      let stands = (names_of_text m well).variables n.text x.kind (is_stretch 0 (variables m) n.text x stretch).kind in
      worth-path e n rs is (scene m h t bound) ∙ (λ i. bound_value (free i) (thing_value n.text (steps_in rs (scene m h t bound)) (scene m h t bound) (stands i)))

  -- a path into a variable that no bound name hides
  pub path_in_row : (k : Kind) (ps : List Pick) → IsGivenTo m bound e k → GoesTo m t h → ArePicksOf ps (steps_in rs (scene m h t bound)) → IsPathInRow m h t bound e k x ps
  path_in_row k ps given goes picks =
      let c = asking (names m) given.kinds in
      let own = judged-path e n rs is c in
      let p = path_at (names m) (names_of_text m well) given.kinds e.at n.text (map judged_reach rs) ps (steps_in rs (scene m h t bound)) x k (unbound_over n.text bound given.kinds (bound_over bound given.kinds given.are_bound) free) stretch
      (steps_as_said rs (scene m h t bound)) picks (told e c _ own given.faultless) (inl (given.of_text, fits_as e c _ k own given.fits)) in
      record {
        at = p.at;
        is_one = p.is_one;
        within = p.within;
        numbers = λ place below. ap (λ v. number_of v place) path_worth ∙ p.numbers h t place goes.of_kinds goes.within below;
      }
