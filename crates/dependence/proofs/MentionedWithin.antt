-- The cells that an expression without faults mentions are cells of the text.
use Rattle.std.proofs.Common.{◌≡◌, ℕ, ◌+◌, ◌-◌, ◌<◌, ◌≤◌, inl, inr, ℤ, Bool, true, false, ◌&&◌, nat_lt, List, [], ◌∷◌, ◌++◌, map, fold, Option, Some, None, refl, sym, ap, subst, ◌∙◌, arith}
use Rattle.std.specs.Prelude.{if◌then◌else◌}
use Rattle.std.specs.List.{AllByRecursion, flat_map}
use Rattle.intervals.specs.declared.interval.Interval.{Interval}
use Rattle.hll_tree.specs.declared.tree.Branch.{Branch}
use Rattle.hll_tree.specs.declared.tree.Cmp.{Cmp}
use Rattle.hll_tree.specs.declared.tree.Domain.{Domain}
use Rattle.hll_tree.specs.declared.tree.Expr.{Expr}
use Rattle.hll_tree.specs.declared.tree.Form.{Path, Chain, Compare, Minus, Not, Choice, Group, Quant as Quantified, Pre, Least, Greatest, Size, Within}
use Rattle.hll_tree.specs.declared.tree.Link.{Link}
use Rattle.hll_tree.specs.declared.tree.Name.{Name}
use Rattle.hll_tree.specs.declared.tree.Quant.{Quant}
use Rattle.hll_tree.specs.declared.tree.Reach.{Reach, At, Field}
use Rattle.hll_tree.proofs.Gives.{all_append}
use Rattle.hll_meaning.specs.Fitting.{is_scalar, parts}
use Rattle.hll_meaning.specs.Judging.{Judged, Reached as Said, by_index, by_name, wants_whole, no_constant, wants_body, reached_from, thing_path, bound_path, inside_bind, one_link, all_in, all_faults, judged}
use Rattle.hll_meaning.specs.Kinds.{Kind, truth, index, cells}
use Rattle.hll_meaning.specs.Names.{Thing, variable, Names, under}
use Rattle.hll_meaning.specs.Runs.{variables_among}
use Rattle.hll_meaning.specs.Soundness.{IsFine}
use Rattle.hll_meaning.specs.StaticRules.{asking}
use Rattle.hll_meaning.specs.Values.{Scene, numbers, is_true}
use Rattle.hll_meaning.proofs.Faultless.{empty_parts, first_empty, both}
use Rattle.hll_meaning.proofs.FormInduction.{HoldsByForm, holds_by_form}
use Rattle.hll_meaning.proofs.JudgedForms.{link_said as judged_link, branch_said as judged_branch, reach_said as judged_reach, domain_said as judged_domain, judged-path, judged-chain, judged-compare, judged-minus, judged-not, judged-choice, judged-group, judged-quantified, judged-pre_with, judged-least, judged-greatest, judged-size, judged-within, reach_said-at as judged_reach-at, reach_said-field as judged_reach-field}
use Rattle.hll_meaning.proofs.Lies.{front_faultless}
use Rattle.hll_meaning.proofs.Scenes.{under_all}
use Rattle.dependence.specs.Mentions.{Mentioning, MentioningStep, MentioningLink, Stretch, stretch_of, scalar_cells, scalars_cells, with_bound, Pick, pick, pick_by, reached, variable_cells, unless_bound, choice_cells, mentioning}
use Rattle.dependence.proofs.Branches.{AreBranches}
use Rattle.dependence.proofs.DefinedCells.{count_all, is_stretch}
use Rattle.dependence.specs.Links.{linked, has_link, all_linked}
use Rattle.dependence.proofs.Linked.{reach_linked, domain_linked, branch_linked, link_linked, linked-path, linked-chain, linked-compare, linked-minus, linked-not, linked-choice, linked-group, linked-quantified, linked-pre_with, linked-least, linked-greatest, linked-size, linked-within, linked-at}
use Rattle.dependence.proofs.MentionForms.{domain_said, reach_said, branch_said, link_said, said-number, said-truth, said-path, said-chain, said-compare, said-minus, said-not, said-choice, said-group, said-quantified, said-pre_alone, said-pre_with, said-least, said-greatest, said-size, said-starting, said-within, said-at, said-field}
use Rattle.dependence.proofs.Reached.{EndsWithin, IsPickFor, ArePicksFor, picks_reach}
use Rattle.dependence.proofs.GivenParts.{body_scalar, compared_scalars, first_scalar, next_scalar, given_branches, remembered, AreGivenParts, given_group}
use Rattle.dependence.proofs.MentionedParts.{is_below, parts_cells, group_by_parts}
use Rattle.dependence.proofs.GivenKinds.{Goes, whole_cells, AreOfText, AreOver, unbound_over, IsFineIndex, path_indices, steps_structs, wanted_whole, wanted_truth}

-- ---- lists

all_of_if : (P : ℕ → Type 0) (b : Bool) (xs ys : List ℕ) → (b ≡ true → AllByRecursion P xs) → (b ≡ false → AllByRecursion P ys) → AllByRecursion P (if b then xs else ys)
all_of_if P true xs ys h k = h refl
all_of_if P false xs ys h k = k refl

-- ---- the cells that are mentioned

module _ (ns : Names) (text : AreOfText ns) where
  -- a scene of these names, whatever the time
  abbrev pub under_names : List (List ℕ × ℤ) → Scene
  under_names bs = record { names = ns; history = []; time = 0; bound = bs }

  -- cells of the text
  abbrev pub AreCells : List ℕ → Type 0
  AreCells = AllByRecursion (λ c. c < count_all (variables_among ns))

  abbrev pub MentionsCells : Expr → Type 0
  MentionsCells e = (ks : List (List ℕ × Kind)) (bs : List (List ℕ × ℤ)) (k : Kind) (place : ℕ) → AreOver bs ks → linked e ≡ true → (judged e (asking ns ks)).faults ≡ [] →
      Goes ns (judged e (asking ns ks)) k → place < cells k → AreCells ((mentioning e).cells k place (under_names bs))

  -- a step of a path mentions cells in its index, and is picked as it is said
  pub record StepMentionsCells (r : Reach) : Type 0 where
    pub way : (s : Scene) → IsPickFor (pick (reach_said r) s) (judged_reach r)
    pub index : (ks : List (List ℕ × Kind)) (bs : List (List ℕ × ℤ)) → AreOver bs ks → reach_linked r ≡ true → IsFineIndex (asking ns ks) (judged_reach r) → AreCells ((reach_said r).cells (under_names bs))

  by_mentioning : (e : Expr) (m : Mentioning) (k : Kind) (place : ℕ) (bs : List (List ℕ × ℤ)) → mentioning e ≡ m → AreCells (m.cells k place (under_names bs)) → AreCells ((mentioning e).cells k place (under_names bs))
  by_mentioning e m k place bs is h = subst (λ (x : Mentioning). AreCells (x.cells k place (under_names bs))) (sym is) h

  told : (e : Expr) (ks : List (List ℕ × Kind)) (j : Judged) → judged e (asking ns ks) ≡ j → (judged e (asking ns ks)).faults ≡ [] → j.faults ≡ []
  told e ks j is none = sym (ap (λ (x : Judged). x.faults) is) ∙ none

  goes_as : (e : Expr) (ks : List (List ℕ × Kind)) (j : Judged) (k : Kind) → judged e (asking ns ks) ≡ j → Goes ns (judged e (asking ns ks)) k → Goes ns j k
  goes_as e ks j k is h = subst (λ (x : Judged). Goes ns x k) is h

  -- a scalar operand
  operand : (e : Expr) → MentionsCells e → (ks : List (List ℕ × Kind)) (bs : List (List ℕ × ℤ)) → AreOver bs ks → linked e ≡ true → (judged e (asking ns ks)).faults ≡ [] → is_scalar (judged e (asking ns ks)).kind ≡ true →
      AreCells (scalar_cells (mentioning e) (under_names bs))
  operand e h ks bs over l none scalar = h ks bs truth 0 over l none (inr (scalar, refl)) (omega arith)

  -- ---- paths

  indices : (rs : List Reach) → AllByRecursion StepMentionsCells rs → (ks : List (List ℕ × Kind)) (bs : List (List ℕ × ℤ)) → AreOver bs ks → all_linked (map reach_linked rs) ≡ true → AllByRecursion (IsFineIndex (asking ns ks)) (map judged_reach rs) →
      AreCells (flat_map (λ (i : MentioningStep). i.cells (under_names bs)) (map reach_said rs))
  indices [] all ks bs over l fine = tt
  indices (r ∷ rs) all ks bs over l fine =
      let p = both (reach_linked r) _ l in
      all_append (λ c. c < count_all (variables_among ns)) ((reach_said r).cells (under_names bs)) _ (all.0.index ks bs over p.0 fine.0) (indices rs all.1 ks bs over p.1 fine.1)

  ways : (rs : List Reach) → AllByRecursion StepMentionsCells rs → (s : Scene) → ArePicksFor (map (λ (i : MentioningStep). pick i s) (map reach_said rs)) (map judged_reach rs)
  ways [] all s = tt
  ways (r ∷ rs) all s = (all.0.way s, ways rs all.1 s)

  -- places of a variable
  from_start : (x : Stretch) (to : Kind) (place : ℕ) (ats : List ℕ) → place < cells to → x.start + cells x.kind ≤ count_all (variables_among ns) → AllByRecursion (EndsWithin x.kind to) ats → AreCells (map (λ at. x.start + at + place) ats)
  from_start x to place [] below within all = tt
  from_start x to place (a ∷ ats) below within all = (omega (arith, all.0), from_start x to place ats below within all.1)

  variable_within : (ks : List (List ℕ × Kind)) (at : ℕ) (n : List ℕ) (rs : List Said) (ps : List Pick) (k : Kind) (place : ℕ) (o : Option Stretch) → stretch_of (variables_among ns) n ≡ o → ArePicksFor ps rs →
      (thing_path (asking ns ks) at rs (under n ns)).faults ≡ [] → Goes ns (thing_path (asking ns ks) at rs (under n ns)) k → place < cells k → AreCells (variable_cells o ps place)
  variable_within ks at n rs ps k place None is picks none goes below = tt
  variable_within ks at n rs ps k place (Some x) is picks none goes below =
      let stretch = is_stretch 0 (variables_among ns) n x is in
      let stands = text.variables n x.kind stretch.kind in
      let c = asking ns ks in
      let way = reached_from c at x.kind rs in
      let none' = subst (λ (o : Option Thing). (thing_path (asking ns ks) at rs o).faults ≡ []) stands none in
      let goes' = subst (λ (o : Option Thing). Goes ns (thing_path (asking ns ks) at rs o) k) stands goes in
      let structs = steps_structs ns c at rs (record { kind = x.kind; faults = [] }) (text.structs n _ x.kind stands) in
      let same = whole_cells ns at (way.faults ++ no_constant c at) way.kind k [] structs goes' in
      let fine = under_all IsFine ns text.fine n (variable (text.input n x.kind stretch.kind) x.kind) stands in
      from_start x way.kind place (reached x.kind ps) (subst (λ (n : ℕ). place < n) same below) (to_end stretch.to) (picks_reach c at rs ps x.kind [] picks fine (first_empty way.faults _ none'))
    where
      to_end : {a b : ℕ} → a ≤ 0 + b → a ≤ b
      to_end h = omega arith

  path_within : (ks : List (List ℕ × Kind)) (bs : List (List ℕ × ℤ)) (at : ℕ) (n : List ℕ) (rs : List Said) (ps : List Pick) (k : Kind) (place : ℕ) → AreOver bs ks → ArePicksFor ps rs →
      (bound_path (asking ns ks) at n rs (under n ks)).faults ≡ [] → Goes ns (bound_path (asking ns ks) at n rs (under n ks)) k → place < cells k → AreCells (unless_bound (under n bs) (variable_cells (stretch_of (variables_among ns) n) ps place))
  path_within ks bs at n rs ps k place over picks none goes below = by_bound (under n bs) refl
    where
      by_bound : (o : Option ℤ) → under n bs ≡ o → AreCells (unless_bound o (variable_cells (stretch_of (variables_among ns) n) ps place))
      by_bound (Some x) is = tt
      by_bound None is =
          let free = unbound_over n bs ks over is in
          variable_within ks at n rs ps k place (stretch_of (variables_among ns) n) refl picks
          (subst (λ (o : Option Kind). (bound_path (asking ns ks) at n rs o).faults ≡ []) free none)
          (subst (λ (o : Option Kind). Goes ns (bound_path (asking ns ks) at n rs o) k) free goes) below

  mentions_path : (e : Expr) (n : Name) (rs : List Reach) → e.form ≡ Path n rs → AllByRecursion StepMentionsCells rs → MentionsCells e
  mentions_path e n rs is all ks bs k place over l none goes below =
      let j = judged-path e n rs is (asking ns ks) in
      let none' = told e ks _ j none in
      by_mentioning e _ k place bs (said-path e n rs is)
      (all_append (λ c. c < count_all (variables_among ns)) (flat_map (λ (i : MentioningStep). i.cells (under_names bs)) (map reach_said rs)) _
      (indices rs all ks bs over (linked-path e n rs is l) (path_indices ns text.fine ks e.at n.text (map judged_reach rs) (under n.text ks) none'))
      (path_within ks bs e.at n.text (map judged_reach rs) (map (λ (i : MentioningStep). pick i (under_names bs)) (map reach_said rs)) k place over (ways rs all (under_names bs)) none' (goes_as e ks _ k j goes) below))

  -- ---- operators

  links_within : (ls : List Link) → AllByRecursion (λ l. MentionsCells l.with) ls → (ks : List (List ℕ × Kind)) (bs : List (List ℕ × ℤ)) (j : Judged) → AreOver bs ks → all_linked (map link_linked ls) ≡ true →
      (fold (one_link (asking ns ks)) j (map judged_link ls)).faults ≡ [] → AreCells (flat_map (λ (link : MentioningLink). scalar_cells link.with (under_names bs)) (map link_said ls))
  links_within [] all ks bs j over l none = tt
  links_within (link ∷ ls) all ks bs j over l none =
      let c = asking ns ks in
      let p = both (linked link.with) _ l in
      let own = next_scalar c j (judged_link link) (map judged_link ls) none in
      all_append (λ c. c < count_all (variables_among ns)) (scalar_cells (mentioning link.with) (under_names bs)) _
      (operand link.with all.0 ks bs over p.0 own.0 own.1) (links_within ls all.1 ks bs (one_link c j (judged_link link)) over p.1 none)

  mentions_chain : (e first : Expr) (ls : List Link) → e.form ≡ Chain first ls → MentionsCells first → AllByRecursion (λ l. MentionsCells l.with) ls → MentionsCells e
  mentions_chain e first ls is one all ks bs k place over l none goes below =
      let c = asking ns ks in
      let none' = told e ks _ (judged-chain e first ls is c) none in
      let p = both (linked first && has_link (map link_linked ls)) _ (linked-chain e first ls is l) in
      let q = both (linked first) _ p.0 in
      by_mentioning e _ k place bs (said-chain e first ls is)
      (all_append (λ c. c < count_all (variables_among ns)) (scalar_cells (mentioning first) (under_names bs)) _
      (operand first one ks bs over q.0 (front_faultless c (map judged_link ls) (judged first c) none') (first_scalar c (judged first c) ls q.1 none'))
      (links_within ls all ks bs (judged first c) over p.1 none'))

  mentions_compare : (e : Expr) (o : Cmp) (a b : Expr) → e.form ≡ Compare o a b → MentionsCells a → MentionsCells b → MentionsCells e
  mentions_compare e o a b is left right ks bs k place over l none goes below =
      let c = asking ns ks in
      let p = empty_parts (judged a c).faults _ (told e ks _ (judged-compare e o a b is c) none) in
      let q = empty_parts (judged b c).faults _ p.1 in
      let scalars = compared_scalars o (judged a c) (judged b c) q.1 in
      let ls = both (linked a) _ (linked-compare e o a b is l) in
      by_mentioning e _ k place bs (said-compare e o a b is)
      (all_append (λ c. c < count_all (variables_among ns)) (scalar_cells (mentioning a) (under_names bs)) _
      (operand a left ks bs over ls.0 p.0 scalars.0) (operand b right ks bs over ls.1 q.0 scalars.1))

  -- whole numbers
  all_within : (es : List Expr) → AllByRecursion MentionsCells es → (ks : List (List ℕ × Kind)) (bs : List (List ℕ × ℤ)) → AreOver bs ks → all_linked (map linked es) ≡ true → all_faults (map (λ j. j (asking ns ks)) (map judged es)) ≡ [] →
      flat_map wants_whole (map (λ j. j (asking ns ks)) (map judged es)) ≡ [] → AreCells (scalars_cells (map mentioning es) (under_names bs))
  all_within [] all ks bs over l none wholes = tt
  all_within (e ∷ es) all ks bs over l none wholes =
      let c = asking ns ks in
      let p = both (linked e) _ l in
      let q = empty_parts (judged e c).faults _ none in
      let w = empty_parts (wants_whole (judged e c)) _ wholes in
      all_append (λ c. c < count_all (variables_among ns)) (scalar_cells (mentioning e) (under_names bs)) _
      (operand e all.0 ks bs over p.0 q.0 (wanted_whole (judged e c) w.0)) (all_within es all.1 ks bs over p.1 q.1 w.1)

  -- ---- choices

  choice_within : (ks : List (List ℕ × Kind)) (bs : List (List ℕ × ℤ)) (k : Kind) (place : ℕ) → AreOver bs ks → place < cells k →
      (branches : List Branch) (otherwise : Expr) → AllByRecursion (λ b. MentionsCells b.when × MentionsCells b.gives) branches → MentionsCells otherwise → all_linked (map branch_linked branches) ≡ true → linked otherwise ≡ true →
      AreBranches (λ i. Goes ns i k) (all_in (asking ns ks) (map judged_branch branches)) (judged otherwise (asking ns ks)) → AreCells (choice_cells (map branch_said branches) (mentioning otherwise) k place (under_names bs))
  choice_within ks bs k place over below [] otherwise all last l m are = last ks bs k place over m are.faultless are.has below
  choice_within ks bs k place over below (b ∷ branches) otherwise all last l m are =
      let s = under_names bs in
      let p = both (branch_linked b) _ l in
      let q = both (linked b.when) _ p.0 in
      let own = are.each.0 in
      let here = all.0.1 ks bs k place over q.1 own.faultless own.has below in
      let rest = choice_within ks bs k place over below branches otherwise all.1 last p.1 m (record { each = are.each.1; faultless = are.faultless; has = are.has }) in
      all_of_if (λ c. c < count_all (variables_among ns)) ((mentioning b.when).static s) _ _
      (λ static. all_of_if (λ c. c < count_all (variables_among ns)) (is_true ((mentioning b.when).worth s)) _ _ (λ yes. here) (λ no. rest))
      (λ other. all_append (λ c. c < count_all (variables_among ns)) (scalar_cells (mentioning b.when) s ++ (mentioning b.gives).cells k place s) _
      (all_append (λ c. c < count_all (variables_among ns)) (scalar_cells (mentioning b.when) s) _ (operand b.when all.0.0 ks bs over q.0 own.condition_faultless own.condition_scalar) here) rest)

  mentions_choice : (e : Expr) (branches : List Branch) (otherwise : Expr) → e.form ≡ Choice branches otherwise → AllByRecursion (λ b. MentionsCells b.when × MentionsCells b.gives) branches → MentionsCells otherwise → MentionsCells e
  mentions_choice e branches otherwise is all last ks bs k place over l none goes below =
      let c = asking ns ks in
      let own = judged-choice e branches otherwise is c in
      let p = both (all_linked (map branch_linked branches)) _ (linked-choice e branches otherwise is l) in
      by_mentioning e _ k place bs (said-choice e branches otherwise is)
      (choice_within ks bs k place over below branches otherwise all last p.0 p.1
      (given_branches ns e.at (all_in c (map judged_branch branches)) (judged otherwise c) k (told e ks _ own none) (goes_as e ks _ k own goes)))

  -- ---- groups

  parts_within : (es : List Expr) (kinds : List Kind) → AllByRecursion MentionsCells es → (ks : List (List ℕ × Kind)) (bs : List (List ℕ × ℤ)) (place : ℕ) → AreOver bs ks → AreGivenParts ns ks es kinds → AreCells (parts_cells kinds (map mentioning es) place (under_names bs))
  parts_within [] [] all ks bs place over given = tt
  parts_within [] (k ∷ kinds) all ks bs place over given = absurd given
  parts_within (e ∷ es) [] all ks bs place over given = absurd given
  parts_within (e ∷ es) (k ∷ kinds) all ks bs place over given =
      all_of_if (λ c. c < count_all (variables_among ns)) (nat_lt place (cells k)) _ _
      (λ here. all.0 ks bs k place over given.0.links given.0.faultless (inl (given.0.structs, given.0.fits)) (is_below place (cells k) here))
      (λ further. parts_within es kinds all.1 ks bs (place - cells k) over given.1)

  mentions_group : (e : Expr) (es : List Expr) → e.form ≡ Group es → AllByRecursion MentionsCells es → MentionsCells e
  mentions_group e es is all ks bs k place over l none goes below =
      let own = judged-group e es is (asking ns ks) in
      let given = given_group ns ks e.at es k (linked-group e es is l) (told e ks _ own none) (goes_as e ks _ k own goes) in
      by_mentioning e _ k place bs (said-group e es is)
      (subst AreCells (sym (group_by_parts ns ks k es place (under_names bs) given.0 given.1)) (parts_within es (parts k) all ks bs place over given.1))

  -- ---- quantifiers

  numbers_within : (xs : List ℤ) (n : List ℕ) (kind : Kind) (body : Expr) → MentionsCells body → (ks : List (List ℕ × Kind)) (bs : List (List ℕ × ℤ)) → AreOver bs ks → linked body ≡ true → (judged body (asking ns ((n, kind) ∷ ks))).faults ≡ [] →
      is_scalar (judged body (asking ns ((n, kind) ∷ ks))).kind ≡ true → AreCells (flat_map (λ x. scalar_cells (mentioning body) (with_bound n x (under_names bs))) xs)
  numbers_within [] n kind body h ks bs over l none scalar = tt
  numbers_within (x ∷ xs) n kind body h ks bs over l none scalar =
      all_append (λ c. c < count_all (variables_among ns)) (scalar_cells (mentioning body) (with_bound n x (under_names bs))) _
      (operand body h ((n, kind) ∷ ks) ((n, x) ∷ bs) (refl, over) l none scalar) (numbers_within xs n kind body h ks bs over l none scalar)

  mentions_quantified : (e : Expr) (q : Quant) (n : Name) (d : Domain) (body : Expr) → e.form ≡ Quantified q n d body → MentionsCells body → MentionsCells e
  mentions_quantified e q n d body is h ks bs k place over l none goes below =
      let c = asking ns ks in
      let range = judged_domain d c in
      let p = empty_parts range.faults _ (told e ks _ (judged-quantified e q n d body is c) none) in
      let r = empty_parts (judged body (inside_bind n.text range.kind c)).faults _ p.1 in
      by_mentioning e _ k place bs (said-quantified e q n d body is)
      (numbers_within (numbers ((domain_said d).numbers (under_names bs))) n.text range.kind body h ks bs over (both (domain_linked d) _ (linked-quantified e q n d body is l)).1 r.0
      (body_scalar q (judged body (inside_bind n.text range.kind c)) (first_empty (wants_body q _) _ r.1)))

  -- ---- form by form

  mentions_inner : (e inner : Expr) (m : Mentioning) (k : Kind) (place : ℕ) (ks : List (List ℕ × Kind)) (bs : List (List ℕ × ℤ)) → mentioning e ≡ m → m.cells k place (under_names bs) ≡ scalar_cells (mentioning inner) (under_names bs) → MentionsCells inner → AreOver bs ks → linked inner ≡ true →
      (judged inner (asking ns ks)).faults ≡ [] → is_scalar (judged inner (asking ns ks)).kind ≡ true → AreCells ((mentioning e).cells k place (under_names bs))
  mentions_inner e inner m k place ks bs is same h over l none scalar = by_mentioning e m k place bs is (subst AreCells (sym same) (operand inner h ks bs over l none scalar))

  mentions_minus : (e inner : Expr) → e.form ≡ Minus inner → MentionsCells inner → MentionsCells e
  mentions_minus e inner is h ks bs k place over l none goes below =
      let c = asking ns ks in
      let p = empty_parts (judged inner c).faults _ (told e ks _ (judged-minus e inner is c) none) in
      mentions_inner e inner _ k place ks bs (said-minus e inner is) refl h over (linked-minus e inner is l) p.0 (wanted_whole (judged inner c) (first_empty (wants_whole (judged inner c)) _ p.1))

  mentions_not : (e inner : Expr) → e.form ≡ Not inner → MentionsCells inner → MentionsCells e
  mentions_not e inner is h ks bs k place over l none goes below =
      let c = asking ns ks in
      let p = empty_parts (judged inner c).faults _ (told e ks _ (judged-not e inner is c) none) in
      mentions_inner e inner _ k place ks bs (said-not e inner is) refl h over (linked-not e inner is l) p.0 (wanted_truth (judged inner c) p.1)

  mentions_size : (e inner : Expr) → e.form ≡ Size inner → MentionsCells inner → MentionsCells e
  mentions_size e inner is h ks bs k place over l none goes below =
      let c = asking ns ks in
      let p = empty_parts (judged inner c).faults _ (told e ks _ (judged-size e inner is c) none) in
      mentions_inner e inner _ k place ks bs (said-size e inner is) refl h over (linked-size e inner is l) p.0 (wanted_whole (judged inner c) (first_empty (wants_whole (judged inner c)) _ p.1))

  mentions_interval : (e inner : Expr) (i : Interval) → e.form ≡ Within inner i → MentionsCells inner → MentionsCells e
  mentions_interval e inner i is h ks bs k place over l none goes below =
      let c = asking ns ks in
      let p = empty_parts (judged inner c).faults _ (told e ks _ (judged-within e inner i is c) none) in
      mentions_inner e inner _ k place ks bs (said-within e inner i is) refl h over (linked-within e inner i is l) p.0 (wanted_whole (judged inner c) (first_empty (wants_whole (judged inner c)) _ p.1))

  mentions_memory : (e body first : Expr) → e.form ≡ Pre body (Some first) → MentionsCells first → MentionsCells e
  mentions_memory e body first is h ks bs k place over l none goes below =
      let c = asking ns ks in
      let r = remembered c e.at (judged body c) (judged first c) (told e ks _ (judged-pre_with e body first is c) none) in
      mentions_inner e first _ k place ks bs (said-pre_with e body first is) refl h over (both (linked body) _ (linked-pre_with e body first is l)).1 r.first r.first_is_scalar

  mentions_least : (e : Expr) (es : List Expr) → e.form ≡ Least es → AllByRecursion MentionsCells es → MentionsCells e
  mentions_least e es is all ks bs k place over l none goes below =
      let c = asking ns ks in
      let p = empty_parts (all_faults (map (λ j. j c) (map judged es))) _ (told e ks _ (judged-least e es is c) none) in
      by_mentioning e _ k place bs (said-least e es is) (all_within es all ks bs over (linked-least e es is l) p.0 (first_empty (flat_map wants_whole (map (λ j. j c) (map judged es))) _ p.1))

  mentions_greatest : (e : Expr) (es : List Expr) → e.form ≡ Greatest es → AllByRecursion MentionsCells es → MentionsCells e
  mentions_greatest e es is all ks bs k place over l none goes below =
      let c = asking ns ks in
      let p = empty_parts (all_faults (map (λ j. j c) (map judged es))) _ (told e ks _ (judged-greatest e es is c) none) in
      by_mentioning e _ k place bs (said-greatest e es is) (all_within es all ks bs over (linked-greatest e es is l) p.0 (first_empty (flat_map wants_whole (map (λ j. j c) (map judged es))) _ p.1))

  index_mentions : (e : Expr) → MentionsCells e → StepMentionsCells (At e)
  index_mentions e h = record {
    way = λ s. subst (λ (r : Said). IsPickFor (pick (reach_said (At e)) s) r) (sym (judged_reach-at e)) (subst (λ (m : MentioningStep). IsPickFor (pick m s) (by_index (judged e))) (sym (said-at e)) (by_static ((mentioning e).static s) _));
    index = λ ks bs over l fine.
        let f = subst (IsFineIndex (asking ns ks)) (judged_reach-at e) fine in
        subst (λ (m : MentioningStep). AreCells (m.cells (under_names bs))) (sym (said-at e)) (operand e h ks bs over (linked-at e l) f.0 f.1);
  }
    where
      by_static : (b : Bool) (x : ℤ) → IsPickFor (pick_by b (index x)) (by_index (judged e))
      by_static true x = tt
      by_static false x = tt

  field_mentions : (n : Name) → StepMentionsCells (Field n)
  field_mentions n = record {
    way = λ s. subst (λ (r : Said). IsPickFor (pick (reach_said (Field n)) s) r) (sym (judged_reach-field n)) (subst (λ (m : MentioningStep). IsPickFor (pick m s) (by_name n.text n.at)) (sym (said-field n)) refl);
    index = λ ks bs over l fine. subst (λ (m : MentioningStep). AreCells (m.cells (under_names bs))) (sym (said-field n)) tt;
  }

  pub mentions_by_form : HoldsByForm MentionsCells (λ d. Unit {0}) StepMentionsCells
  mentions_by_form = record {
    number = λ e n is ks bs k place over l none goes below. by_mentioning e _ k place bs (said-number e n is) tt;
    truth = λ e b is ks bs k place over l none goes below. by_mentioning e _ k place bs (said-truth e b is) tt;
    path = mentions_path;
    chain = mentions_chain;
    compare = mentions_compare;
    minus = mentions_minus;
    negated = mentions_not;
    choice = mentions_choice;
    group = mentions_group;
    quantified = λ e q n d body is domain h. mentions_quantified e q n d body is h;
    pre_alone = λ e body is h ks bs k place over l none goes below. by_mentioning e _ k place bs (said-pre_alone e body is) tt;
    pre_with = λ e body first is h g. mentions_memory e body first is g;
    least = mentions_least;
    greatest = mentions_greatest;
    size = mentions_size;
    starting = λ e is ks bs k place over l none goes below. by_mentioning e _ k place bs (said-starting e is) tt;
    within = mentions_interval;
    bounds = λ a b h g. tt;
    truths = tt;
    named = λ n. tt;
    index = index_mentions;
    field = field_mentions;
  }

  -- an expression without faults mentions cells of the text
  pub mentions_cells : (e : Expr) → MentionsCells e
  mentions_cells = holds_by_form MentionsCells (λ d. Unit {0}) StepMentionsCells mentions_by_form
