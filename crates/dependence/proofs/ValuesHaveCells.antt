-- The value of an expression without faults that is given to a kind has a number for each cell of it.
use Rattle.std.proofs.Common.{◌≡◌, ℕ, ◌+◌, inl, ℤ, true, ◌&&◌, Some, List, [], ◌∷◌, map, length, refl, sym, ap, subst, ◌∙◌}
use Rattle.std.specs.List.{AllByRecursion, flat_map}
use Rattle.std.proofs.lemmas.List.{length-append}
use Rattle.intervals.specs.Ends.{Ends}
use Rattle.hll_tree.specs.declared.tree.Branch.{Branch}
use Rattle.hll_tree.specs.declared.tree.Expr.{Expr}
use Rattle.hll_tree.specs.declared.tree.Form.{Path, Chain, Choice, Group, Pre}
use Rattle.hll_tree.specs.declared.tree.HllModel.{HllModel}
use Rattle.hll_tree.specs.declared.tree.Link.{Link}
use Rattle.hll_tree.specs.declared.tree.Name.{Name}
use Rattle.hll_tree.specs.declared.tree.Quant.{Quant}
use Rattle.hll_tree.specs.declared.tree.Quant.TheVariants as quant
use Rattle.hll_tree.specs.declared.tree.Reach.{Reach}
use Rattle.hll_meaning.specs.Declarations.{names}
use Rattle.hll_meaning.specs.Fitting.{is_scalar, ends_of, parts, join}
use Rattle.hll_meaning.specs.Judging.{Fault, Judged, given_whole, inside_bind, quantified_kind, all_in, judged}
use Rattle.hll_meaning.specs.Kinds.{Kind, Value, cells, ranges}
use Rattle.hll_meaning.specs.Names.{Names}
use Rattle.hll_meaning.specs.Runs.{scene}
use Rattle.hll_meaning.specs.StaticRules.{asking, Well}
use Rattle.hll_meaning.specs.Values.{History, Scene, In, is_true, chosen, worth}
use Rattle.hll_meaning.proofs.Faultless.{both}
use Rattle.hll_meaning.proofs.FormInduction.{HoldsByForm, holds_by_form}
use Rattle.hll_meaning.proofs.JudgedForms.{link_said as judged_link, branch_said as judged_branch, reach_said as judged_reach, domain_said as judged_domain, judged-number, judged-truth, judged-path, judged-chain, judged-compare, judged-minus, judged-not, judged-choice, judged-group, judged-quantified, judged-pre_with, judged-least, judged-greatest, judged-size, judged-starting, judged-within}
use Rattle.hll_meaning.proofs.Joins.{either_way}
use Rattle.hll_meaning.proofs.Ranges.{is_sound}
use Rattle.hll_meaning.proofs.Scenes.{HasAll, scene_has}
use Rattle.hll_meaning.proofs.WorthForms.{worth-choice, worth-group}
use Rattle.dependence.specs.Laws.{IsGivenTo, GoesTo}
use Rattle.dependence.specs.Links.{linked, has_link, all_linked}
use Rattle.dependence.proofs.Branches.{AreBranches}
use Rattle.dependence.proofs.Declared.{scalar_cell}
use Rattle.dependence.proofs.DeclaredKinds.{names_of_text}
use Rattle.dependence.proofs.GivenKinds.{Goes, AreOfText}
use Rattle.dependence.proofs.GivenParts.{scalar_wanted, chain_scalar, first_scalar, path_cells_same, given_branches, remembered, never_alone, AreGivenParts, given_group, ranges_of_parts}
use Rattle.dependence.proofs.Linked.{branch_linked, link_linked, linked-chain, linked-choice, linked-group}
use Rattle.dependence.proofs.Numbers.{as_many}

-- the values of parts one behind the other
abbrev pub values_of : List Expr → In Value
values_of es s = flat_map (λ e. e s) (map worth es)

-- a quantifier makes a scalar
pub quantifier_scalar : (q : Quant) (e : Ends) (k : Kind) → is_scalar (quantified_kind q e k) ≡ true
quantifier_scalar quant.All e k = refl
quantifier_scalar quant.Any e k = refl
quantifier_scalar quant.Sum e k = refl

module _ (ns : Names) (text : AreOfText ns) where
  abbrev pub HasCells : Expr → Type 0
  HasCells e = (ks : List (List ℕ × Kind)) (s : Scene) (k : Kind) → HasAll (asking ns ks) s → linked e ≡ true → (judged e (asking ns ks)).faults ≡ [] → Goes ns (judged e (asking ns ks)) k → length (worth e s) ≡ cells k

  told : (e : Expr) (ks : List (List ℕ × Kind)) (j : Judged) → judged e (asking ns ks) ≡ j → (judged e (asking ns ks)).faults ≡ [] → j.faults ≡ []
  told e ks j is none = sym (ap (λ (x : Judged). x.faults) is) ∙ none

  goes_as : (e : Expr) (ks : List (List ℕ × Kind)) (j : Judged) (k : Kind) → judged e (asking ns ks) ≡ j → Goes ns (judged e (asking ns ks)) k → Goes ns j k
  goes_as e ks j k is h = subst (λ (x : Judged). Goes ns x k) is h

  -- a value of an expression's own kind
  own_cells : (e : Expr) (ks : List (List ℕ × Kind)) (s : Scene) (k own : Kind) → (judged e (asking ns ks)).kind ≡ own → HasAll (asking ns ks) s → (judged e (asking ns ks)).faults ≡ [] → cells k ≡ cells own → length (worth e s) ≡ cells k
  own_cells e ks s k own is has none same = as_many (ranges (judged e (asking ns ks)).kind) (worth e s) (is_sound e (asking ns ks) s has none) ∙ ap cells is ∙ sym same

  -- a scalar that is given whole
  scalar_has : (e : Expr) (ks : List (List ℕ × Kind)) (s : Scene) (k : Kind) (at : ℕ) (fs : List Fault) (own : Kind) (v : Value) → judged e (asking ns ks) ≡ given_whole at fs own v → is_scalar own ≡ true → HasAll (asking ns ks) s →
      (judged e (asking ns ks)).faults ≡ [] → Goes ns (judged e (asking ns ks)) k → length (worth e s) ≡ cells k
  scalar_has e ks s k at fs own v is scalar has none goes =
      own_cells e ks s k own (ap (λ (j : Judged). j.kind) is) has none
      (scalar_cell k (scalar_wanted ns at fs own k v scalar (goes_as e ks (given_whole at fs own v) k is goes)) ∙ sym (scalar_cell own scalar))

  cells_path : (e : Expr) (n : Name) (rs : List Reach) → e.form ≡ Path n rs → HasCells e
  cells_path e n rs is ks s k has l none goes =
      let own = judged-path e n rs is (asking ns ks) in
      own_cells e ks s k _ (ap (λ (j : Judged). j.kind) own) has none
      (path_cells_same ns text ks s.bound has.bound e.at n.text (map judged_reach rs) k (goes_as e ks _ k own goes))

  cells_chain : (e first : Expr) (ls : List Link) → e.form ≡ Chain first ls → HasCells e
  cells_chain e first ls is ks s k has l none goes =
      let c = asking ns ks in
      let own = judged-chain e first ls is c in
      let p = both (linked first && has_link (map link_linked ls)) _ (linked-chain e first ls is l) in
      let scalar = first_scalar c (judged first c) ls (both (linked first) _ p.0).1 (told e ks _ own none) in
      scalar_has e ks s k _ _ _ _ own (chain_scalar c (map judged_link ls) (judged first c) scalar) has none goes

  chosen_has : (ks : List (List ℕ × Kind)) (s : Scene) (k : Kind) → HasAll (asking ns ks) s → (branches : List Branch) (otherwise : Expr) → AllByRecursion (λ b. HasCells b.when × HasCells b.gives) branches → HasCells otherwise →
      all_linked (map branch_linked branches) ≡ true → linked otherwise ≡ true → AreBranches (λ i. Goes ns i k) (all_in (asking ns ks) (map judged_branch branches)) (judged otherwise (asking ns ks)) →
      length (chosen (map (λ b. (worth b.when, worth b.gives)) branches) (worth otherwise) s) ≡ cells k
  chosen_has ks s k has [] otherwise all last l m are = last ks s k has m are.faultless are.has
  chosen_has ks s k has (b ∷ branches) otherwise all last l m are =
      let p = both (branch_linked b) _ l in
      let q = both (linked b.when) _ p.0 in
      either_way (λ (v : Value). length v ≡ cells k) (is_true (worth b.when s)) (worth b.gives s) _
      (λ yes. all.0.1 ks s k has q.1 are.each.0.faultless are.each.0.has)
      (λ no. chosen_has ks s k has branches otherwise all.1 last p.1 m (record { each = are.each.1; faultless = are.faultless; has = are.has }))

  cells_choice : (e : Expr) (branches : List Branch) (otherwise : Expr) → e.form ≡ Choice branches otherwise → AllByRecursion (λ b. HasCells b.when × HasCells b.gives) branches → HasCells otherwise → HasCells e
  cells_choice e branches otherwise is all last ks s k has l none goes =
      let c = asking ns ks in
      let own = judged-choice e branches otherwise is c in
      let p = both (all_linked (map branch_linked branches)) _ (linked-choice e branches otherwise is l) in
      ap (λ (v : Value). length v) (worth-choice e branches otherwise is s)
      ∙ chosen_has ks s k has branches otherwise all last p.0 p.1
      (given_branches ns e.at (all_in c (map judged_branch branches)) (judged otherwise c) k (told e ks _ own none) (goes_as e ks _ k own goes))

  pub parts_have : (ks : List (List ℕ × Kind)) (s : Scene) → HasAll (asking ns ks) s → (es : List Expr) (kinds : List Kind) → AllByRecursion HasCells es → AreGivenParts ns ks es kinds → length (values_of es s) ≡ length (flat_map ranges kinds)
  parts_have ks s has [] [] all given = refl
  parts_have ks s has [] (k ∷ kinds) all given = absurd given
  parts_have ks s has (e ∷ es) [] all given = absurd given
  parts_have ks s has (e ∷ es) (k ∷ kinds) all given =
      let here = all.0 ks s k has given.0.links given.0.faultless (inl (given.0.structs, given.0.fits)) in
      let there = parts_have ks s has es kinds all.1 given.1 in
      length-append (worth e s) (values_of es s) ∙ (λ i. here i + there i) ∙ sym (length-append (ranges k) (flat_map ranges kinds))

  cells_group : (e : Expr) (es : List Expr) → e.form ≡ Group es → AllByRecursion HasCells es → HasCells e
  cells_group e es is all ks s k has l none goes =
      let own = judged-group e es is (asking ns ks) in
      let given = given_group ns ks e.at es k (linked-group e es is l) (told e ks _ own none) (goes_as e ks _ k own goes) in
      ap (λ (v : Value). length v) (worth-group e es is s) ∙ parts_have ks s has es (parts k) all given.1 ∙ sym (ap (λ es. length es) (ranges_of_parts k given.0))

  cells_memory : (e body first : Expr) → e.form ≡ Pre body (Some first) → HasCells e
  cells_memory e body first is ks s k has l none goes =
      let c = asking ns ks in
      let own = judged-pre_with e body first is c in
      let r = remembered c e.at (judged body c) (judged first c) (told e ks _ own none) in
      scalar_has e ks s k _ _ (join (judged body c).kind (judged first c).kind).kind _ own r.scalar has none goes

  has_cells_by_form : HoldsByForm HasCells (λ d. Unit {0}) (λ r. Unit {0})
  has_cells_by_form = record {
    number = λ e n is ks s k has l none goes. scalar_has e ks s k _ _ _ _ (judged-number e n is (asking ns ks)) refl has none goes;
    truth = λ e b is ks s k has l none goes. scalar_has e ks s k _ _ _ _ (judged-truth e b is (asking ns ks)) refl has none goes;
    path = λ e n rs is all. cells_path e n rs is;
    chain = λ e first ls is f all. cells_chain e first ls is;
    compare = λ e o a b is f g ks s k has l none goes. scalar_has e ks s k _ _ _ _ (judged-compare e o a b is (asking ns ks)) refl has none goes;
    minus = λ e inner is f ks s k has l none goes. scalar_has e ks s k _ _ _ _ (judged-minus e inner is (asking ns ks)) refl has none goes;
    negated = λ e inner is f ks s k has l none goes. scalar_has e ks s k _ _ _ _ (judged-not e inner is (asking ns ks)) refl has none goes;
    choice = cells_choice;
    group = cells_group;
    quantified = λ e q n d body is g f ks s k has l none goes.
        let c = asking ns ks in
        scalar_has e ks s k _ _ _ _ (judged-quantified e q n d body is c) (quantifier_scalar q (ends_of (judged_domain d c).kind) (judged body (inside_bind n.text (judged_domain d c).kind c)).kind) has none goes;
    pre_alone = λ e body is f ks s k has l none goes. absurd (never_alone e body is (asking ns ks) none);
    pre_with = λ e body first is f g. cells_memory e body first is;
    least = λ e es is all ks s k has l none goes. scalar_has e ks s k _ _ _ _ (judged-least e es is (asking ns ks)) refl has none goes;
    greatest = λ e es is all ks s k has l none goes. scalar_has e ks s k _ _ _ _ (judged-greatest e es is (asking ns ks)) refl has none goes;
    size = λ e inner is f ks s k has l none goes. scalar_has e ks s k _ _ _ _ (judged-size e inner is (asking ns ks)) refl has none goes;
    starting = λ e is ks s k has l none goes. scalar_has e ks s k _ _ _ _ (judged-starting e is (asking ns ks)) refl has none goes;
    within = λ e inner i is f ks s k has l none goes. scalar_has e ks s k _ _ _ _ (judged-within e inner i is (asking ns ks)) refl has none goes;
    bounds = λ a b f g. tt;
    truths = tt;
    named = λ n. tt;
    index = λ e f. tt;
    field = λ n. tt;
  }

  -- the value of an expression without faults has a number for each cell of the kind to which it goes
  pub value_has_cells : (e : Expr) → HasCells e
  value_has_cells = holds_by_form HasCells (λ d. Unit {0}) (λ r. Unit {0}) has_cells_by_form

-- a scene of a text without faults has what its names stand for
pub scene_of_text : (m : HllModel) (bound : List (List ℕ × ℤ)) (e : Expr) (k : Kind) (t : ℕ) (h : History) → Well m → (given : IsGivenTo m bound e k) → GoesTo m t h → HasAll (asking (names m) given.kinds) (scene m h t bound)
scene_of_text m bound e k t h well given goes =
    scene_has (asking (names m) given.kinds) (scene m h t bound) (record { names = refl; fine = (names_of_text m well).fine; of_kinds = goes.of_kinds; time = goes.within; bound = given.are_bound })

-- so it is in a text without faults
pub given_value_has_cells : (m : HllModel) (bound : List (List ℕ × ℤ)) (e : Expr) (k : Kind) (t : ℕ) (h : History) → Well m → IsGivenTo m bound e k → GoesTo m t h → length (worth e (scene m h t bound)) ≡ cells k
given_value_has_cells m bound e k t h well given goes =
    value_has_cells (names m) (names_of_text m well) e given.kinds (scene m h t bound) k (scene_of_text m bound e k t h well given goes) given.linked given.faultless (inl (given.of_text, given.fits))
