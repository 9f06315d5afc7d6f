-- The number at a place of the value of an expression without faults goes by the cells that it mentions for the place, and by what
-- was before.
use Rattle.std.proofs.Common.{◌≡◌, ℕ, zero, suc, ◌+◌, ◌-◌, ◌<◌, ◌≤◌, inl, inr, ℤ, pos, Bool, true, false, not, ◌&&◌, nat_lt, List, [], ◌∷◌, ◌++◌, map, fold, length, Option, Some, None, unwrap_or, refl, sym, ap, subst, ◌∙◌, arith}
use Rattle.std.specs.Prelude.{if◌then◌else◌, neg_ℤ, unsigned_abs, slice_index_or}
use Rattle.std.specs.List.{AllByRecursion, flat_map}
use Rattle.std.proofs.lemmas.List.{length-append}
use Rattle.intervals.specs.Ends.{Ends}
use Rattle.intervals.specs.declared.interval.Interval.{Interval}
use Rattle.hll_tree.specs.declared.tree.Branch.{Branch}
use Rattle.hll_tree.specs.declared.tree.Cmp.{Cmp}
use Rattle.hll_tree.specs.declared.tree.Domain.{Domain}
use Rattle.hll_tree.specs.declared.tree.Expr.{Expr}
use Rattle.hll_tree.specs.declared.tree.Form.{Path, Chain, Compare, Minus, Not, Choice, Group, Quant as Quantified, Pre, Least, Greatest, Size, Within}
use Rattle.hll_tree.specs.declared.tree.Link.{Link}
use Rattle.hll_tree.specs.declared.tree.Name.{Name}
use Rattle.hll_tree.specs.declared.tree.Op.{Op}
use Rattle.hll_tree.specs.declared.tree.Quant.{Quant}
use Rattle.hll_tree.specs.declared.tree.Reach.{Reach, Reach-F, At, Field}
use Rattle.hll_meaning.specs.Fitting.{is_scalar, ends_of, parts}
use Rattle.hll_meaning.specs.Judging.{Judged, Reached as Said, wants_whole, wants_body, inside_bind, one_link, all_in, all_faults, bound_path, judged}
use Rattle.hll_meaning.specs.Kinds.{Kind, truth, Value, Step, index, cells, ranges, is_in}
use Rattle.hll_meaning.specs.Names.{Thing, constant, type_of, code_in, variable, later, Names, under}
use Rattle.hll_meaning.specs.Runs.{variables_among, AreOfKinds}
use Rattle.hll_meaning.specs.Soundness.{AreBound}
use Rattle.hll_meaning.specs.StaticRules.{asking}
use Rattle.hll_meaning.specs.Values.{History, Scene, In, of_number, of_truth, number, is_true, chained, compared, chosen, quantified_value, numbers, least, greatest, thing_value, bound_value, path_value, worth}
use Rattle.hll_meaning.proofs.Faultless.{empty_parts, first_empty, both}
use Rattle.hll_meaning.proofs.FormInduction.{HoldsByForm, holds_by_form}
use Rattle.hll_meaning.proofs.JudgedForms.{link_said as judged_link, branch_said as judged_branch, reach_said as judged_reach, domain_said as judged_domain, judged-path, judged-chain, judged-compare, judged-minus, judged-not, judged-choice, judged-group, judged-quantified, judged-pre_with, judged-least, judged-greatest, judged-size, judged-within, reach_said-at as judged_reach-at}
use Rattle.hll_meaning.proofs.Lies.{front_faultless}
use Rattle.hll_meaning.proofs.Numbers.{one_of}
use Rattle.hll_meaning.proofs.Paths.{AreSteps}
use Rattle.hll_meaning.proofs.Quantifiers.{numbers_between}
use Rattle.hll_meaning.proofs.Ranges.{is_sound}
use Rattle.hll_meaning.proofs.Scenes.{HasAll, scene_has, by_test}
use Rattle.hll_meaning.proofs.WorthForms.{reach_worth, link_worth, worth-number, worth-truth, worth-path, worth-chain, worth-compare, worth-minus, worth-not, worth-choice, worth-group, worth-quantified, worth-pre_with, worth-least, worth-greatest, worth-size, worth-starting, worth-within, reach_worth-at, reach_worth-field}
use Rattle.dependence.specs.Links.{linked, has_link, all_linked}
use Rattle.dependence.specs.Mentions.{Mentioning, MentioningStep, MentioningLink, Stretch, stretch_of, scalar_cells, scalars_cells, with_bound, Pick, pick, pick_by, reached, variable_cells, unless_bound, choice_cells, reach_mentioning, mentioning}
use Rattle.dependence.specs.Rows.{number_at}
use Rattle.dependence.proofs.Branches.{AreBranches}
use Rattle.dependence.proofs.FixedDomains.{standing, IsFixed, fixed_bounds, fixed_truths, fixed_named}
use Rattle.dependence.proofs.GivenKinds.{Goes, AreOfText, unbound_over, IsFineIndex, path_indices, wanted_whole, wanted_truth}
use Rattle.dependence.proofs.GivenParts.{body_scalar, compared_scalars, first_scalar, next_scalar, given_branches, AreRemembered, remembered, never_alone, AreGivenParts, given_group, ranges_of_parts}
use Rattle.dependence.proofs.Linked.{reach_linked, domain_linked, branch_linked, link_linked, linked-path, linked-chain, linked-compare, linked-minus, linked-not, linked-choice, linked-group, linked-quantified, linked-pre_with, linked-least, linked-greatest, linked-size, linked-within, linked-at}
use Rattle.dependence.proofs.Members.{all_both, all_hold, in_map}
use Rattle.dependence.proofs.MentionForms.{reach_said, branch_said, link_said, said-path, said-chain, said-compare, said-minus, said-not, said-choice, said-group, said-quantified, said-pre_with, said-least, said-greatest, said-size, said-within, said-at, said-field}
use Rattle.dependence.proofs.MentionedCells.{bound_over}
use Rattle.dependence.proofs.MentionedParts.{is_below, is_above, parts_cells, group_by_parts}
use Rattle.dependence.proofs.MentionedWorth.{mentioned_worth}
use Rattle.dependence.proofs.Numbers.{number_of, in_front_of, behind_front, scalar_value}
use Rattle.dependence.proofs.PlacesOfPaths.{stretch_among, value_reached, path_at}
use Rattle.dependence.proofs.Reached.{IsPickOf, ArePicksOf}
use Rattle.dependence.proofs.Setting.{all_of}
use Rattle.dependence.proofs.Statics.{static_constant}
use Rattle.dependence.proofs.StepsOfPaths.{steps_as_said}
use Rattle.dependence.proofs.ValuesHaveCells.{values_of, value_has_cells}

-- ---- tests

if_so : (P : ℕ → Type 0) (b : Bool) (xs ys : List ℕ) → b ≡ true → AllByRecursion P (if b then xs else ys) → AllByRecursion P xs
if_so P true xs ys is all = all
if_so P false xs ys is all = absurd (cc is)

if_not : (P : ℕ → Type 0) (b : Bool) (xs ys : List ℕ) → b ≡ false → AllByRecursion P (if b then xs else ys) → AllByRecursion P ys
if_not P true xs ys is all = absurd (cc is)
if_not P false xs ys is all = all

-- numbers of what tests take
both_take : (a b : Bool) (v w x y : Value) (place : ℕ) → a ≡ b → number_of v place ≡ number_of x place → number_of w place ≡ number_of y place → number_of (if a then v else w) place ≡ number_of (if b then x else y) place
both_take true true v w x y place same first second = first
both_take true false v w x y place same first second = absurd (cc same)
both_take false true v w x y place same first second = absurd (cc same)
both_take false false v w x y place same first second = second

firsts_take : (a b : Bool) (v w x y : Value) (place : ℕ) → a ≡ true → b ≡ true → number_of v place ≡ number_of x place → number_of (if a then v else w) place ≡ number_of (if b then x else y) place
firsts_take true true v w x y place is also same = same
firsts_take true false v w x y place is also same = absurd (cc also)
firsts_take false b v w x y place is also same = absurd (cc is)

seconds_take : (a b : Bool) (v w x y : Value) (place : ℕ) → a ≡ false → b ≡ false → number_of w place ≡ number_of y place → number_of (if a then v else w) place ≡ number_of (if b then x else y) place
seconds_take true b v w x y place is also same = absurd (cc is)
seconds_take false true v w x y place is also same = absurd (cc also)
seconds_take false false v w x y place is also same = same

module _ (ns : Names) (text : AreOfText ns) (g h : History) (g_of : AllByRecursion (AreOfKinds (variables_among ns)) g) (h_of : AllByRecursion (AreOfKinds (variables_among ns)) h) where
  -- ---- where both histories are looked at

  -- numbers of bound names in their kinds, and a time of both histories, before which these are the same
  pub record AreAt (ks : List (List ℕ × Kind)) (bs : List (List ℕ × ℤ)) (t : ℕ) : Type 0 where
    pub bound : AreBound bs ks
    pub first : t < length g
    pub second : t < length h
    pub before : (u : ℕ) → u < t → slice_index_or g u [] ≡ slice_index_or h u []

  -- at that time they have the same numbers of these cells
  abbrev pub Agree : ℕ → List ℕ → Type 0
  Agree t = AllByRecursion (λ c. number_at g t c ≡ number_at h t c)

  -- the scenes, and the one in which it is asked what is mentioned
  abbrev pub one : ℕ → List (List ℕ × ℤ) → Scene
  one t bs = standing ns text g t bs

  abbrev pub two : ℕ → List (List ℕ × ℤ) → Scene
  two t bs = standing ns text h t bs

  abbrev pub asked : List (List ℕ × ℤ) → Scene
  asked bs = standing ns text [] 0 bs

  abbrev pub GoesBy : Expr → Type 0
  GoesBy e = (ks : List (List ℕ × Kind)) (bs : List (List ℕ × ℤ)) (k : Kind) (place t : ℕ) → AreAt ks bs t → linked e ≡ true → (judged e (asking ns ks)).faults ≡ [] → Goes ns (judged e (asking ns ks)) k → place < cells k →
      Agree t ((mentioning e).cells k place (asked bs)) → number_of (worth e (one t bs)) place ≡ number_of (worth e (two t bs)) place

  first_has : (ks : List (List ℕ × Kind)) (bs : List (List ℕ × ℤ)) (t : ℕ) → AreAt ks bs t → HasAll (asking ns ks) (one t bs)
  first_has ks bs t st = scene_has (asking ns ks) (one t bs) (record { names = refl; fine = text.fine; of_kinds = g_of; time = st.first; bound = st.bound })

  second_has : (ks : List (List ℕ × Kind)) (bs : List (List ℕ × ℤ)) (t : ℕ) → AreAt ks bs t → HasAll (asking ns ks) (two t bs)
  second_has ks bs t st = scene_has (asking ns ks) (two t bs) (record { names = refl; fine = text.fine; of_kinds = h_of; time = st.second; bound = st.bound })

  inside : (ks : List (List ℕ × Kind)) (bs : List (List ℕ × ℤ)) (t : ℕ) (n : List ℕ) (k : Kind) (x : ℤ) → AreAt ks bs t → is_scalar k ≡ true → is_in (ends_of k) x ≡ true → AreAt ((n, k) ∷ ks) ((n, x) ∷ bs) t
  inside ks bs t n k x st scalar within = record { bound = (refl, scalar, one_of k x scalar within, st.bound); first = st.first; second = st.second; before = st.before }

  earlier_too : (ks : List (List ℕ × Kind)) (bs : List (List ℕ × ℤ)) (t : ℕ) → AreAt ks bs (suc t) → AreAt ks bs t
  earlier_too ks bs t st = record { bound = st.bound; first = omega (arith, st.first); second = omega (arith, st.second); before = λ u less. st.before u (omega arith) }

  -- at an earlier time they have the same numbers of all cells
  all_agree : (ks : List (List ℕ × Kind)) (bs : List (List ℕ × ℤ)) (t : ℕ) (cs : List ℕ) → AreAt ks bs (suc t) → Agree t cs
  all_agree ks bs t cs st = all_of (λ c. number_at g t c ≡ number_at h t c) cs (λ c there. ap (λ values. number_at (values ∷ []) 0 c) (st.before t (omega arith)))

  -- ---- what is told of an expression

  told : (e : Expr) (ks : List (List ℕ × Kind)) (j : Judged) → judged e (asking ns ks) ≡ j → (judged e (asking ns ks)).faults ≡ [] → j.faults ≡ []
  told e ks j is none = sym (ap (λ (x : Judged). x.faults) is) ∙ none

  goes_as : (e : Expr) (ks : List (List ℕ × Kind)) (j : Judged) (k : Kind) → judged e (asking ns ks) ≡ j → Goes ns (judged e (asking ns ks)) k → Goes ns j k
  goes_as e ks j k is goes = subst (λ (x : Judged). Goes ns x k) is goes

  mentioned : (e : Expr) (m : Mentioning) (bs : List (List ℕ × ℤ)) (k : Kind) (place t : ℕ) → mentioning e ≡ m → Agree t ((mentioning e).cells k place (asked bs)) → Agree t (m.cells k place (asked bs))
  mentioned e m bs k place t is agree = subst (λ (x : Mentioning). Agree t (x.cells k place (asked bs))) is agree

  front : (t : ℕ) (cs ds : List ℕ) → Agree t (cs ++ ds) → Agree t cs
  front t cs ds agree = (all_both (λ c. number_at g t c ≡ number_at h t c) cs ds agree).0

  back : (t : ℕ) (cs ds : List ℕ) → Agree t (cs ++ ds) → Agree t ds
  back t cs ds agree = (all_both (λ c. number_at g t c ≡ number_at h t c) cs ds agree).1

  at_place : (v w : Value) (place : ℕ) → v ≡ w → number_of v place ≡ number_of w place
  at_place v w place same = ap (λ (u : Value). number_of u place) same

  -- a scalar operand has the same value
  operand : (e : Expr) → GoesBy e → (ks : List (List ℕ × Kind)) (bs : List (List ℕ × ℤ)) (t : ℕ) → AreAt ks bs t → linked e ≡ true → (judged e (asking ns ks)).faults ≡ [] → is_scalar (judged e (asking ns ks)).kind ≡ true →
      Agree t (scalar_cells (mentioning e) (asked bs)) → worth e (one t bs) ≡ worth e (two t bs)
  operand e by ks bs t st l none scalar agree =
      let c = asking ns ks in
      let here = scalar_value (judged e c).kind (worth e (one t bs)) scalar (is_sound e c (one t bs) (first_has ks bs t st) none) in
      let there = scalar_value (judged e c).kind (worth e (two t bs)) scalar (is_sound e c (two t bs) (second_has ks bs t st) none) in
      here ∙ ap (λ (x : ℤ). x ∷ []) (by ks bs truth 0 t st l none (inr (scalar, refl)) (omega arith) agree) ∙ sym there

  -- what is static has the value that it has where it is asked
  static_first : (e : Expr) (bs : List (List ℕ × ℤ)) (t : ℕ) → (mentioning e).static (asked bs) ≡ true → (mentioning e).worth (asked bs) ≡ worth e (one t bs)
  static_first e bs t static = mentioned_worth e (asked bs) ∙ static_constant e (asked bs) (one t bs) (record { names = refl; bound = refl }) static

  static_second : (e : Expr) (bs : List (List ℕ × ℤ)) (t : ℕ) → (mentioning e).static (asked bs) ≡ true → (mentioning e).worth (asked bs) ≡ worth e (two t bs)
  static_second e bs t static = mentioned_worth e (asked bs) ∙ static_constant e (asked bs) (two t bs) (record { names = refl; bound = refl }) static

  -- ---- paths

  -- a step of a path is picked as it goes, and is the same where its index is
  pub record StepGoesBy (r : Reach) : Type 0 where
    pub picked : (bs : List (List ℕ × ℤ)) (t : ℕ) → IsPickOf (pick (reach_said r) (asked bs)) (reach_worth r (one t bs))
    pub same : (ks : List (List ℕ × Kind)) (bs : List (List ℕ × ℤ)) (t : ℕ) → AreAt ks bs t → reach_linked r ≡ true → IsFineIndex (asking ns ks) (judged_reach r) → Agree t ((reach_said r).cells (asked bs)) → reach_worth r (one t bs) ≡ reach_worth r (two t bs)

  are_picks : (rs : List Reach) → AllByRecursion StepGoesBy rs → (bs : List (List ℕ × ℤ)) (t : ℕ) → ArePicksOf (map (λ (i : MentioningStep). pick i (asked bs)) (map reach_said rs)) (map (λ (r : In Step). r (one t bs)) (map reach_worth rs))
  are_picks [] all bs t = tt
  are_picks (r ∷ rs) all bs t = (all.0.picked bs t, are_picks rs all.1 bs t)

  same_steps : (rs : List Reach) → AllByRecursion StepGoesBy rs → (ks : List (List ℕ × Kind)) (bs : List (List ℕ × ℤ)) (t : ℕ) → AreAt ks bs t → all_linked (map reach_linked rs) ≡ true → AllByRecursion (IsFineIndex (asking ns ks)) (map judged_reach rs) →
      Agree t (flat_map (λ (i : MentioningStep). i.cells (asked bs)) (map reach_said rs)) → map (λ (r : In Step). r (one t bs)) (map reach_worth rs) ≡ map (λ (r : In Step). r (two t bs)) (map reach_worth rs)
  same_steps [] all ks bs t st l fine agree = refl
  same_steps (r ∷ rs) all ks bs t st l fine agree =
      let p = both (reach_linked r) _ l in
      let here = all.0.same ks bs t st p.0 fine.0 (front t ((reach_said r).cells (asked bs)) _ agree) in
      let there = same_steps rs all.1 ks bs t st p.1 fine.1 (back t ((reach_said r).cells (asked bs)) _ agree) in
      λ i. here i ∷ there i

  -- what a path into a variable reaches
  variable_goes : (ks : List (List ℕ × Kind)) (bs : List (List ℕ × ℤ)) (t at : ℕ) (n : List ℕ) (rs : List Said) (ps : List Pick) (ss : List Step) (k : Kind) (place : ℕ) (x : Stretch) → AreAt ks bs t → under n ks ≡ None → under n bs ≡ None → stretch_of (variables_among ns) n ≡ Some x →
      AreSteps rs ss → ArePicksOf ps ss → (bound_path (asking ns ks) at n rs (under n ks)).faults ≡ [] → Goes ns (bound_path (asking ns ks) at n rs (under n ks)) k → place < cells k → Agree t (unless_bound (under n bs) (variable_cells (stretch_of (variables_among ns) n) ps place)) →
      number_of (value_reached ns (slice_index_or g t []) n ss) place ≡ number_of (value_reached ns (slice_index_or h t []) n ss) place
  variable_goes ks bs t at n rs ps ss k place x st hidden free is are picks none goes below agree =
      let p = path_at ns text ks at n rs ps ss x k hidden is are picks none goes in
      let seen = subst (λ (o : Option Stretch). Agree t (variable_cells o ps place)) is (subst (λ (o : Option ℤ). Agree t (unless_bound o (variable_cells (stretch_of (variables_among ns) n) ps place))) free agree) in
      let same = all_hold (λ c. number_at g t c ≡ number_at h t c) (map (λ a. x.start + a + place) (reached x.kind ps)) (x.start + p.at + place) seen (in_map (λ a. x.start + a + place) (reached x.kind ps) p.at p.is_one) in
      p.numbers g t place g_of st.first below ∙ same ∙ sym (p.numbers h t place h_of st.second below)

  path_goes : (ks : List (List ℕ × Kind)) (bs : List (List ℕ × ℤ)) (t at : ℕ) (n : List ℕ) (rs : List Said) (ps : List Pick) (ss : List Step) (k : Kind) (place : ℕ) → AreAt ks bs t →
      AreSteps rs ss → ArePicksOf ps ss → (bound_path (asking ns ks) at n rs (under n ks)).faults ≡ [] → Goes ns (bound_path (asking ns ks) at n rs (under n ks)) k → place < cells k → Agree t (unless_bound (under n bs) (variable_cells (stretch_of (variables_among ns) n) ps place)) →
      number_of (path_value n ss (one t bs)) place ≡ number_of (path_value n ss (two t bs)) place
  path_goes ks bs t at n rs ps ss k place st are picks none goes below agree = by_bound (under n bs) refl
    where
      by_thing : under n bs ≡ None → (o : Option Thing) → under n ns ≡ o → number_of (unwrap_or (thing_value n ss (one t bs) o) []) place ≡ number_of (unwrap_or (thing_value n ss (two t bs) o) []) place
      by_thing free None is = refl
      by_thing free (Some (constant b x)) is = refl
      by_thing free (Some (type_of l)) is = refl
      by_thing free (Some (code_in root code)) is = refl
      by_thing free (Some (variable input l)) is =
          let s = stretch_among ns 0 n input l is in
          variable_goes ks bs t at n rs ps ss k place s.stretch st (unbound_over n bs ks (bound_over bs ks st.bound) free) free s.is are picks none goes below agree
      by_thing free (Some later) is = refl

      by_bound : (o : Option ℤ) → under n bs ≡ o → number_of (bound_value o (thing_value n ss (one t bs) (under n ns))) place ≡ number_of (bound_value o (thing_value n ss (two t bs) (under n ns))) place
      by_bound (Some x) is = refl
      by_bound None is = by_thing is (under n ns) refl

  goes_path : (e : Expr) (n : Name) (rs : List Reach) → e.form ≡ Path n rs → AllByRecursion StepGoesBy rs → GoesBy e
  goes_path e n rs is all ks bs k place t st l none goes below agree =
      let own = judged-path e n rs is (asking ns ks) in
      let none' = told e ks _ own none in
      let shown = mentioned e _ bs k place t (said-path e n rs is) agree in
      let indices = flat_map (λ (i : MentioningStep). i.cells (asked bs)) (map reach_said rs) in
      let ss = map (λ (r : In Step). r (one t bs)) (map reach_worth rs) in
      let same = same_steps rs all ks bs t st (linked-path e n rs is l) (path_indices ns text.fine ks e.at n.text (map judged_reach rs) (under n.text ks) none') (front t indices _ shown) in
      at_place _ _ place (worth-path e n rs is (one t bs))
      ∙ path_goes ks bs t e.at n.text (map judged_reach rs) (map (λ (i : MentioningStep). pick i (asked bs)) (map reach_said rs)) ss k place st (steps_as_said rs (one t bs)) (are_picks rs all bs t) none' (goes_as e ks _ k own goes) below (back t indices _ shown)
      ∙ ap (λ (xs : List Step). number_of (path_value n.text xs (two t bs)) place) same
      ∙ sym (at_place _ _ place (worth-path e n rs is (two t bs)))

  -- ---- operators

  links_same : (ls : List Link) → AllByRecursion (λ l. GoesBy l.with) ls → (ks : List (List ℕ × Kind)) (bs : List (List ℕ × ℤ)) (t : ℕ) (j : Judged) → AreAt ks bs t → all_linked (map link_linked ls) ≡ true → (fold (one_link (asking ns ks)) j (map judged_link ls)).faults ≡ [] →
      Agree t (flat_map (λ (link : MentioningLink). scalar_cells link.with (asked bs)) (map link_said ls)) →
      map {B = Op × Value} (λ (link : Op × In Value). (link.0, link.1 (one t bs))) (map link_worth ls) ≡ map {B = Op × Value} (λ (link : Op × In Value). (link.0, link.1 (two t bs))) (map link_worth ls)
  links_same [] all ks bs t j st l none agree = refl
  links_same (link ∷ ls) all ks bs t j st l none agree =
      let c = asking ns ks in
      let p = both (linked link.with) _ l in
      let own = next_scalar c j (judged_link link) (map judged_link ls) none in
      let here = operand link.with all.0 ks bs t st p.0 own.0 own.1 (front t (scalar_cells (mentioning link.with) (asked bs)) _ agree) in
      let there = links_same ls all.1 ks bs t (one_link c j (judged_link link)) st p.1 none (back t (scalar_cells (mentioning link.with) (asked bs)) _ agree) in
      λ i. (link.op, here i) ∷ there i

  goes_chain : (e first : Expr) (ls : List Link) → e.form ≡ Chain first ls → GoesBy first → AllByRecursion (λ l. GoesBy l.with) ls → GoesBy e
  goes_chain e first ls is by all ks bs k place t st l none goes below agree =
      let c = asking ns ks in
      let none' = told e ks _ (judged-chain e first ls is c) none in
      let p = both (linked first && has_link (map link_linked ls)) _ (linked-chain e first ls is l) in
      let q = both (linked first) _ p.0 in
      let shown = mentioned e _ bs k place t (said-chain e first ls is) agree in
      let a = operand first by ks bs t st q.0 (front_faultless c (map judged_link ls) (judged first c) none') (first_scalar c (judged first c) ls q.1 none') (front t (scalar_cells (mentioning first) (asked bs)) _ shown) in
      let b = links_same ls all ks bs t (judged first c) st p.1 none' (back t (scalar_cells (mentioning first) (asked bs)) _ shown) in
      at_place _ _ place (worth-chain e first ls is (one t bs) ∙ (λ i. chained (a i) (b i)) ∙ sym (worth-chain e first ls is (two t bs)))

  goes_compare : (e : Expr) (o : Cmp) (a b : Expr) → e.form ≡ Compare o a b → GoesBy a → GoesBy b → GoesBy e
  goes_compare e o a b is left right ks bs k place t st l none goes below agree =
      let c = asking ns ks in
      let p = empty_parts (judged a c).faults _ (told e ks _ (judged-compare e o a b is c) none) in
      let q = empty_parts (judged b c).faults _ p.1 in
      let scalars = compared_scalars o (judged a c) (judged b c) q.1 in
      let ls = both (linked a) _ (linked-compare e o a b is l) in
      let shown = mentioned e _ bs k place t (said-compare e o a b is) agree in
      let x = operand a left ks bs t st ls.0 p.0 scalars.0 (front t (scalar_cells (mentioning a) (asked bs)) _ shown) in
      let y = operand b right ks bs t st ls.1 q.0 scalars.1 (back t (scalar_cells (mentioning a) (asked bs)) _ shown) in
      at_place _ _ place (worth-compare e o a b is (one t bs) ∙ (λ i. of_truth (compared o (number (x i)) (number (y i)))) ∙ sym (worth-compare e o a b is (two t bs)))

  -- whole numbers
  all_same : (es : List Expr) → AllByRecursion GoesBy es → (ks : List (List ℕ × Kind)) (bs : List (List ℕ × ℤ)) (t : ℕ) → AreAt ks bs t → all_linked (map linked es) ≡ true → all_faults (map (λ j. j (asking ns ks)) (map judged es)) ≡ [] →
      flat_map wants_whole (map (λ j. j (asking ns ks)) (map judged es)) ≡ [] → Agree t (scalars_cells (map mentioning es) (asked bs)) →
      map (λ (e : In Value). e (one t bs)) (map worth es) ≡ map (λ (e : In Value). e (two t bs)) (map worth es)
  all_same [] all ks bs t st l none wholes agree = refl
  all_same (e ∷ es) all ks bs t st l none wholes agree =
      let c = asking ns ks in
      let p = both (linked e) _ l in
      let q = empty_parts (judged e c).faults _ none in
      let w = empty_parts (wants_whole (judged e c)) _ wholes in
      let here = operand e all.0 ks bs t st p.0 q.0 (wanted_whole (judged e c) w.0) (front t (scalar_cells (mentioning e) (asked bs)) _ agree) in
      let there = all_same es all.1 ks bs t st p.1 q.1 w.1 (back t (scalar_cells (mentioning e) (asked bs)) _ agree) in
      λ i. here i ∷ there i

  -- ---- choices

  chosen_goes : (ks : List (List ℕ × Kind)) (bs : List (List ℕ × ℤ)) (k : Kind) (place t : ℕ) → AreAt ks bs t → place < cells k →
      (branches : List Branch) (otherwise : Expr) → AllByRecursion (λ b. GoesBy b.when × GoesBy b.gives) branches → GoesBy otherwise → all_linked (map branch_linked branches) ≡ true → linked otherwise ≡ true →
      AreBranches (λ i. Goes ns i k) (all_in (asking ns ks) (map judged_branch branches)) (judged otherwise (asking ns ks)) → Agree t (choice_cells (map branch_said branches) (mentioning otherwise) k place (asked bs)) →
      number_of (chosen (map (λ b. (worth b.when, worth b.gives)) branches) (worth otherwise) (one t bs)) place ≡ number_of (chosen (map (λ b. (worth b.when, worth b.gives)) branches) (worth otherwise) (two t bs)) place
  chosen_goes ks bs k place t st below [] otherwise all last l m are agree = last ks bs k place t st m are.faultless are.has below agree
  chosen_goes ks bs k place t st below (b ∷ branches) otherwise all last l m are agree =
      let p = both (branch_linked b) _ l in
      let q = both (linked b.when) _ p.0 in
      let own = are.each.0 in
      let gives = all.0.1 ks bs k place t st q.1 own.faultless own.has below in
      let rest = chosen_goes ks bs k place t st below branches otherwise all.1 last p.1 m (record { each = are.each.1; faultless = are.faultless; has = are.has }) in
      let s = asked bs in
      by_test ((mentioning b.when).static s)
      (λ static.
      let here = ap is_true (static_first b.when bs t static) in
      let there = ap is_true (static_second b.when bs t static) in
      let picked = if_so (λ c. number_at g t c ≡ number_at h t c) ((mentioning b.when).static s) _ _ static agree in
      by_test (is_true ((mentioning b.when).worth s))
      (λ yes. firsts_take _ _ _ _ _ _ place (sym here ∙ yes) (sym there ∙ yes) (gives (if_so (λ c. number_at g t c ≡ number_at h t c) (is_true ((mentioning b.when).worth s)) _ _ yes picked)))
      (λ no. seconds_take _ _ _ _ _ _ place (sym here ∙ no) (sym there ∙ no) (rest (if_not (λ c. number_at g t c ≡ number_at h t c) (is_true ((mentioning b.when).worth s)) _ _ no picked))))
      (λ dynamic.
      let shown = if_not (λ c. number_at g t c ≡ number_at h t c) ((mentioning b.when).static s) _ _ dynamic agree in
      let fronts = front t (scalar_cells (mentioning b.when) s ++ (mentioning b.gives).cells k place s) _ shown in
      let tests = operand b.when all.0.0 ks bs t st q.0 own.condition_faultless own.condition_scalar (front t (scalar_cells (mentioning b.when) s) _ fronts) in
      both_take _ _ _ _ _ _ place (ap is_true tests) (gives (back t (scalar_cells (mentioning b.when) s) _ fronts)) (rest (back t (scalar_cells (mentioning b.when) s ++ (mentioning b.gives).cells k place s) _ shown)))

  goes_choice : (e : Expr) (branches : List Branch) (otherwise : Expr) → e.form ≡ Choice branches otherwise → AllByRecursion (λ b. GoesBy b.when × GoesBy b.gives) branches → GoesBy otherwise → GoesBy e
  goes_choice e branches otherwise is all last ks bs k place t st l none goes below agree =
      let c = asking ns ks in
      let own = judged-choice e branches otherwise is c in
      let p = both (all_linked (map branch_linked branches)) _ (linked-choice e branches otherwise is l) in
      at_place _ _ place (worth-choice e branches otherwise is (one t bs))
      ∙ chosen_goes ks bs k place t st below branches otherwise all last p.0 p.1
      (given_branches ns e.at (all_in c (map judged_branch branches)) (judged otherwise c) k (told e ks _ own none) (goes_as e ks _ k own goes))
      (mentioned e _ bs k place t (said-choice e branches otherwise is) agree)
      ∙ sym (at_place _ _ place (worth-choice e branches otherwise is (two t bs)))

  -- ---- groups

  parts_go : (ks : List (List ℕ × Kind)) (bs : List (List ℕ × ℤ)) (t : ℕ) → AreAt ks bs t → (es : List Expr) (kinds : List Kind) (place : ℕ) → AllByRecursion GoesBy es → AreGivenParts ns ks es kinds → place < length (flat_map ranges kinds) →
      Agree t (parts_cells kinds (map mentioning es) place (asked bs)) → number_of (values_of es (one t bs)) place ≡ number_of (values_of es (two t bs)) place
  parts_go ks bs t st [] [] place all given below agree = refl
  parts_go ks bs t st [] (k ∷ kinds) place all given below agree = absurd given
  parts_go ks bs t st (e ∷ es) [] place all given below agree = absurd given
  parts_go ks bs t st (e ∷ es) (k ∷ kinds) place all given below agree =
      let own = given.0 in
      let goes : Goes ns (judged e (asking ns ks)) k = inl (own.structs, own.fits) in
      let here = value_has_cells ns text e ks (one t bs) k (first_has ks bs t st) own.links own.faultless goes in
      let there = value_has_cells ns text e ks (two t bs) k (second_has ks bs t st) own.links own.faultless goes in
      by_test (nat_lt place (cells k))
      (λ inside.
      let small = is_below place (cells k) inside in
      in_front_of (worth e (one t bs)) (values_of es (one t bs)) (cells k) place here small
      ∙ all.0 ks bs k place t st own.links own.faultless goes small (if_so (λ c. number_at g t c ≡ number_at h t c) (nat_lt place (cells k)) _ _ inside agree)
      ∙ sym (in_front_of (worth e (two t bs)) (values_of es (two t bs)) (cells k) place there small))
      (λ further.
      let large = is_above place (cells k) further in
      behind_front (worth e (one t bs)) (values_of es (one t bs)) (cells k) place here large
      ∙ parts_go ks bs t st es kinds (place - cells k) all.1 given.1 (rest_below large) (if_not (λ c. number_at g t c ≡ number_at h t c) (nat_lt place (cells k)) _ _ further agree)
      ∙ sym (behind_front (worth e (two t bs)) (values_of es (two t bs)) (cells k) place there large))
    where
      rest_below : cells k ≤ place → place - cells k < length (flat_map ranges kinds)
      rest_below large = let many = length-append (ranges k) (flat_map ranges kinds) in omega (arith, many, below, large)

  goes_group : (e : Expr) (es : List Expr) → e.form ≡ Group es → AllByRecursion GoesBy es → GoesBy e
  goes_group e es is all ks bs k place t st l none goes below agree =
      let own = judged-group e es is (asking ns ks) in
      let given = given_group ns ks e.at es k (linked-group e es is l) (told e ks _ own none) (goes_as e ks _ k own goes) in
      at_place _ _ place (worth-group e es is (one t bs))
      ∙ parts_go ks bs t st es (parts k) place all given.1 (subst (λ xs. place < length xs) (ranges_of_parts k given.0) below)
      (subst (Agree t) (group_by_parts ns ks k es place (asked bs) given.0 given.1) (mentioned e _ bs k place t (said-group e es is) agree))
      ∙ sym (at_place _ _ place (worth-group e es is (two t bs)))

  -- ---- quantifiers

  numbers_same : (xs : List ℤ) (n : List ℕ) (kind : Kind) (body : Expr) → GoesBy body → (ks : List (List ℕ × Kind)) (bs : List (List ℕ × ℤ)) (t : ℕ) → AreAt ks bs t → linked body ≡ true → (judged body (asking ns ((n, kind) ∷ ks))).faults ≡ [] →
      is_scalar (judged body (asking ns ((n, kind) ∷ ks))).kind ≡ true → is_scalar kind ≡ true → AllByRecursion (λ x. is_in (ends_of kind) x ≡ true) xs → Agree t (flat_map (λ x. scalar_cells (mentioning body) (with_bound n x (asked bs))) xs) →
      map (λ x. worth body (with_bound n x (one t bs))) xs ≡ map (λ x. worth body (with_bound n x (two t bs))) xs
  numbers_same [] n kind body by ks bs t st l none scalar one_cell within agree = refl
  numbers_same (x ∷ xs) n kind body by ks bs t st l none scalar one_cell within agree =
      let here = operand body by ((n, kind) ∷ ks) ((n, x) ∷ bs) t (inside ks bs t n kind x st one_cell within.0) l none scalar (front t (scalar_cells (mentioning body) (with_bound n x (asked bs))) _ agree) in
      let there = numbers_same xs n kind body by ks bs t st l none scalar one_cell within.1 (back t (scalar_cells (mentioning body) (with_bound n x (asked bs))) _ agree) in
      λ i. here i ∷ there i

  goes_quantified : (e : Expr) (q : Quant) (n : Name) (d : Domain) (body : Expr) → e.form ≡ Quantified q n d body → IsFixed ns text d → GoesBy body → GoesBy e
  goes_quantified e q n d body is domain by ks bs k place t st l none goes below agree =
      let c = asking ns ks in
      let range = judged_domain d c in
      let p = empty_parts range.faults _ (told e ks _ (judged-quantified e q n d body is c) none) in
      let j = judged body (inside_bind n.text range.kind c) in
      let r = empty_parts j.faults _ p.1 in
      let scalar = body_scalar q j (first_empty (wants_body q j) _ r.1) in
      let asks = domain.fixed ks bs [] 0 st.bound p.0 in
      let here = domain.fixed ks bs g t st.bound p.0 in
      let there = domain.fixed ks bs h t st.bound p.0 in
      let shown = mentioned e _ bs k place t (said-quantified e q n d body is) agree in
      let seen = subst (λ (x : Ends). Agree t (flat_map (λ x. scalar_cells (mentioning body) (with_bound n.text x (asked bs))) (numbers x))) (domain.said (asked bs) ∙ asks.same) shown in
      let same = numbers_same (numbers (ends_of range.kind)) n.text range.kind body by ks bs t st (both (domain_linked d) _ (linked-quantified e q n d body is l)).1 r.0 scalar asks.scalar (numbers_between (ends_of range.kind)) seen in
      at_place _ _ place
      (worth-quantified e q n d body is (one t bs)
      ∙ ap (λ (x : Ends). quantified_value q (map (λ x. worth body (with_bound n.text x (one t bs))) (numbers x))) here.same
      ∙ ap (quantified_value q) same
      ∙ sym (ap (λ (x : Ends). quantified_value q (map (λ x. worth body (with_bound n.text x (two t bs))) (numbers x))) there.same)
      ∙ sym (worth-quantified e q n d body is (two t bs)))

  -- ---- memories

  goes_memory : (e body first : Expr) → e.form ≡ Pre body (Some first) → GoesBy body → GoesBy first → GoesBy e
  goes_memory e body first is by start ks bs k place t st l none goes below agree = by_time t st (mentioned e _ bs k place t (said-pre_with e body first is) agree)
    where
      r : AreRemembered (judged body (asking ns ks)) (judged first (asking ns ks))
      r = remembered (asking ns ks) e.at (judged body (asking ns ks)) (judged first (asking ns ks)) (told e ks _ (judged-pre_with e body first is (asking ns ks)) none)

      by_time : (t : ℕ) → AreAt ks bs t → Agree t (scalar_cells (mentioning first) (asked bs)) → number_of (worth e (one t bs)) place ≡ number_of (worth e (two t bs)) place
      by_time zero st agree =
          let same = operand first start ks bs zero st (both (linked body) _ (linked-pre_with e body first is l)).1 r.first r.first_is_scalar agree in
          at_place _ _ place (worth-pre_with e body first is (one zero bs) ∙ same ∙ sym (worth-pre_with e body first is (two zero bs)))
      by_time (suc t) st agree =
          let same = operand body by ks bs t (earlier_too ks bs t st) (both (linked body) _ (linked-pre_with e body first is l)).0 r.body r.body_is_scalar (all_agree ks bs t _ st) in
          at_place _ _ place (worth-pre_with e body first is (one (suc t) bs) ∙ same ∙ sym (worth-pre_with e body first is (two (suc t) bs)))

  -- ---- form by form

  goes_minus : (e inner : Expr) → e.form ≡ Minus inner → GoesBy inner → GoesBy e
  goes_minus e inner is by ks bs k place t st l none goes below agree =
      let c = asking ns ks in
      let p = empty_parts (judged inner c).faults _ (told e ks _ (judged-minus e inner is c) none) in
      let same = operand inner by ks bs t st (linked-minus e inner is l) p.0 (wanted_whole (judged inner c) (first_empty (wants_whole (judged inner c)) _ p.1)) (mentioned e _ bs k place t (said-minus e inner is) agree) in
      at_place _ _ place (worth-minus e inner is (one t bs) ∙ ap (λ (v : Value). of_number (neg_ℤ (number v))) same ∙ sym (worth-minus e inner is (two t bs)))

  goes_not : (e inner : Expr) → e.form ≡ Not inner → GoesBy inner → GoesBy e
  goes_not e inner is by ks bs k place t st l none goes below agree =
      let c = asking ns ks in
      let p = empty_parts (judged inner c).faults _ (told e ks _ (judged-not e inner is c) none) in
      let same = operand inner by ks bs t st (linked-not e inner is l) p.0 (wanted_truth (judged inner c) p.1) (mentioned e _ bs k place t (said-not e inner is) agree) in
      at_place _ _ place (worth-not e inner is (one t bs) ∙ ap (λ (v : Value). of_truth (not (is_true v))) same ∙ sym (worth-not e inner is (two t bs)))

  goes_size : (e inner : Expr) → e.form ≡ Size inner → GoesBy inner → GoesBy e
  goes_size e inner is by ks bs k place t st l none goes below agree =
      let c = asking ns ks in
      let p = empty_parts (judged inner c).faults _ (told e ks _ (judged-size e inner is c) none) in
      let same = operand inner by ks bs t st (linked-size e inner is l) p.0 (wanted_whole (judged inner c) (first_empty (wants_whole (judged inner c)) _ p.1)) (mentioned e _ bs k place t (said-size e inner is) agree) in
      at_place _ _ place (worth-size e inner is (one t bs) ∙ ap (λ (v : Value). of_number (pos (unsigned_abs (number v)))) same ∙ sym (worth-size e inner is (two t bs)))

  goes_within : (e inner : Expr) (i : Interval) → e.form ≡ Within inner i → GoesBy inner → GoesBy e
  goes_within e inner i is by ks bs k place t st l none goes below agree =
      let c = asking ns ks in
      let p = empty_parts (judged inner c).faults _ (told e ks _ (judged-within e inner i is c) none) in
      let same = operand inner by ks bs t st (linked-within e inner i is l) p.0 (wanted_whole (judged inner c) (first_empty (wants_whole (judged inner c)) _ p.1)) (mentioned e _ bs k place t (said-within e inner i is) agree) in
      at_place _ _ place (worth-within e inner i is (one t bs) ∙ ap (λ (v : Value). of_truth (is_in (record { lo = i.lo; hi = i.hi }) (number v))) same ∙ sym (worth-within e inner i is (two t bs)))

  goes_least : (e : Expr) (es : List Expr) → e.form ≡ Least es → AllByRecursion GoesBy es → GoesBy e
  goes_least e es is all ks bs k place t st l none goes below agree =
      let c = asking ns ks in
      let p = empty_parts (all_faults (map (λ j. j c) (map judged es))) _ (told e ks _ (judged-least e es is c) none) in
      let same = all_same es all ks bs t st (linked-least e es is l) p.0 (first_empty (flat_map wants_whole (map (λ j. j c) (map judged es))) _ p.1) (mentioned e _ bs k place t (said-least e es is) agree) in
      at_place _ _ place (worth-least e es is (one t bs) ∙ ap (λ vs. of_number (least vs)) same ∙ sym (worth-least e es is (two t bs)))

  goes_greatest : (e : Expr) (es : List Expr) → e.form ≡ Greatest es → AllByRecursion GoesBy es → GoesBy e
  goes_greatest e es is all ks bs k place t st l none goes below agree =
      let c = asking ns ks in
      let p = empty_parts (all_faults (map (λ j. j c) (map judged es))) _ (told e ks _ (judged-greatest e es is c) none) in
      let same = all_same es all ks bs t st (linked-greatest e es is l) p.0 (first_empty (flat_map wants_whole (map (λ j. j c) (map judged es))) _ p.1) (mentioned e _ bs k place t (said-greatest e es is) agree) in
      at_place _ _ place (worth-greatest e es is (one t bs) ∙ ap (λ vs. of_number (greatest vs)) same ∙ sym (worth-greatest e es is (two t bs)))

  index_goes : (e : Expr) → GoesBy e → StepGoesBy (At e)
  index_goes e by = record {
    picked = λ bs t.
        subst (λ (m : MentioningStep). IsPickOf (pick m (asked bs)) (reach_worth (At e) (one t bs))) (sym (said-at e))
        (subst (λ (x : Step). IsPickOf (pick (reach_mentioning (Reach-F.At (mentioning e))) (asked bs)) x) (sym (reach_worth-at e (one t bs))) (by_static bs t ((mentioning e).static (asked bs)) refl));
    same = λ ks bs t st l fine agree.
        let f = subst (IsFineIndex (asking ns ks)) (judged_reach-at e) fine in
        let shown = subst (λ (m : MentioningStep). Agree t (m.cells (asked bs))) (said-at e) agree in
        reach_worth-at e (one t bs) ∙ ap (λ (v : Value). index (number v)) (operand e by ks bs t st (linked-at e l) f.0 f.1 shown) ∙ sym (reach_worth-at e (two t bs));
  }
    where
      by_static : (bs : List (List ℕ × ℤ)) (t : ℕ) (b : Bool) → (mentioning e).static (asked bs) ≡ b → IsPickOf (pick_by b (index (number ((mentioning e).worth (asked bs))))) (index (number (worth e (one t bs))))
      by_static bs t true is = ap number (static_first e bs t is)
      by_static bs t false is = tt

  field_goes : (n : Name) → StepGoesBy (Field n)
  field_goes n = record {
    picked = λ bs t.
        subst (λ (m : MentioningStep). IsPickOf (pick m (asked bs)) (reach_worth (Field n) (one t bs))) (sym (said-field n))
        (subst (λ (x : Step). IsPickOf (pick (reach_mentioning (Reach-F.Field n)) (asked bs)) x) (sym (reach_worth-field n (one t bs))) refl);
    same = λ ks bs t st l fine agree. reach_worth-field n (one t bs) ∙ sym (reach_worth-field n (two t bs));
  }

  goes_by_form : HoldsByForm GoesBy (IsFixed ns text) StepGoesBy
  goes_by_form = record {
    number = λ e n is ks bs k place t st l none goes below agree. at_place _ _ place (worth-number e n is (one t bs) ∙ sym (worth-number e n is (two t bs)));
    truth = λ e b is ks bs k place t st l none goes below agree. at_place _ _ place (worth-truth e b is (one t bs) ∙ sym (worth-truth e b is (two t bs)));
    path = goes_path;
    chain = goes_chain;
    compare = goes_compare;
    minus = goes_minus;
    negated = goes_not;
    choice = goes_choice;
    group = goes_group;
    quantified = goes_quantified;
    pre_alone = λ e body is by ks bs k place t st l none goes below agree. absurd (never_alone e body is (asking ns ks) none);
    pre_with = goes_memory;
    least = goes_least;
    greatest = goes_greatest;
    size = goes_size;
    starting = λ e is ks bs k place t st l none goes below agree. at_place _ _ place (worth-starting e is (one t bs) ∙ sym (worth-starting e is (two t bs)));
    within = goes_within;
    bounds = λ a b f g. fixed_bounds ns text a b;
    truths = fixed_truths ns text;
    named = fixed_named ns text;
    index = index_goes;
    field = field_goes;
  }

  -- the number at a place goes by the cells that are mentioned
  pub value_goes : (e : Expr) → GoesBy e
  value_goes = holds_by_form GoesBy (IsFixed ns text) StepGoesBy goes_by_form
