-- What is said of an expression depends on no more of the names than what stands under each of them.
use Rattle.std.proofs.Common.{◌≡◌, ℕ, ℤ, Bool, true, false, not, Some, None, Option, List, [], ◌∷◌, ◌++◌, map, fold, neg_ℤ, pos, unsigned_abs, refl, sym, ap, subst, ◌∙◌}
use Rattle.std.specs.Prelude.{if◌then◌else◌}
use Rattle.std.specs.List.{AllByRecursion, flat_map}
use Rattle.intervals.specs.declared.interval.Interval.{Interval}
use Rattle.intervals.specs.Ends.{Ends}
use Rattle.intervals.specs.Rules.{negation, absolute, smaller, greater}
use Rattle.hll_tree.specs.declared.tree.Branch.{Branch, roll-Branch}
use Rattle.hll_tree.specs.declared.tree.Cmp.{Cmp}
use Rattle.hll_tree.specs.declared.tree.Domain.{Domain, Domain-F, Bounds, Bool as Truths, Named, roll-Domain}
use Rattle.hll_tree.specs.declared.tree.Domain.TheVariants.{rolls-Bounds, rolls-Bool, rolls-Named}
use Rattle.hll_tree.specs.declared.tree.Domain.TheFolds.{map-Domain, map-Form, map-Reach}
use Rattle.hll_tree.specs.declared.tree.Expr.{Expr, roll-Expr, ind-Expr}
use Rattle.hll_tree.specs.declared.tree.Form.{Form, Form-F, Number, Truth, Path, Chain, Compare, Minus, Not, Choice, Group, Quant as Quantified, Pre, Least, Greatest, Size, Starting, Within, roll-Form}
use Rattle.hll_tree.specs.declared.tree.Form.TheVariants.{rolls-Number, rolls-Truth, rolls-Path, rolls-Chain, rolls-Compare, rolls-Minus, rolls-Not, rolls-Choice, rolls-Group, rolls-Quant, rolls-Pre, rolls-Least, rolls-Greatest, rolls-Size, rolls-Within, rolls-Starting}
use Rattle.hll_tree.specs.declared.tree.Link.{Link, roll-Link}
use Rattle.hll_tree.specs.declared.tree.Name.{Name}
use Rattle.hll_tree.specs.declared.tree.Op.{Op}
use Rattle.hll_tree.specs.declared.tree.Quant.{Quant}
use Rattle.hll_tree.specs.declared.tree.Reach.{Reach, Reach-F, At, Field, roll-Reach}
use Rattle.hll_tree.specs.declared.tree.Reach.TheVariants.{rolls-At, rolls-Field}
use Rattle.hll_meaning.specs.Kinds.{Kind, truth, element, Value}
use Rattle.hll_meaning.specs.Names.{Thing, constant, type_of, code_in, variable, later, Names, under}
use Rattle.hll_meaning.specs.Values.{of_number, of_truth, number, is_true, chained, compared, least, greatest}
use Rattle.hll_meaning.specs.Judging.{Context, In, Judged, Linked, Reached, by_index, by_name, Way, given_whole, no_constant, wants_truth, wants_whole, comparison_faults, constant_kind, one_step, index_faults, path_from, thing_path, bound_path, one_link, chain_of, made_of, made_of_all, choice_of, all_in, group_at, bounds_of, thing_domain, bound_domain, quantified_at, pre_alone, pre_with, judged}
use Rattle.hll_meaning.proofs.JudgedForms.{link_said, branch_said, reach_said, domain_said, judged-number, judged-truth, judged-path, judged-chain, judged-compare, judged-minus, judged-not, judged-choice, judged-group, judged-quantified, judged-pre_alone, judged-pre_with, judged-least, judged-greatest, judged-size, judged-starting, judged-within, domain_said-bounds, domain_said-truths, domain_said-named, reach_said-at, reach_said-field}
use Rattle.hll_meaning.proofs.Constants.{each_has, made}

-- under these names and bound names, where a constant is needed or not
abbrev pub place : Names → List (List ℕ × Kind) → Bool → Context
place xs bound needs = record { names = xs; bound = bound; needs_constant = needs }

-- the same stands under each name
pub record LookAlike (xs ys : Names) : Type 0 where
  pub same : (n : List ℕ) → under n xs ≡ under n ys

module _ (xs ys : Names) where
  -- the same in both places
  abbrev SameIn : {A : Type 0} → In A → Type 0
  SameIn j = (bound : List (List ℕ × Kind)) (needs : Bool) → j (place xs bound needs) ≡ j (place ys bound needs)

  -- so is what is said of an expression
  abbrev IsAlike : Expr → Type 0
  IsAlike e = SameIn (judged e)

  abbrev DomainIsAlike : Domain → Type 0
  DomainIsAlike d = SameIn (domain_said d)

  -- a step of a path is the same in both places
  abbrev StepIsAlike : Reached → Type 0
  StepIsAlike (by_index i) = SameIn i
  StepIsAlike (by_name sought at) = Unit {0}

  abbrev ReachIsAlike : Reach → Type 0
  ReachIsAlike r = StepIsAlike (reach_said r)

  abbrev BranchIsAlike : Branch → Type 0
  BranchIsAlike b = IsAlike b.when × IsAlike b.gives

  -- ---- paths

  step_alike : (bound : List (List ℕ × Kind)) (needs : Bool) (at : ℕ) (w : Way) (r : Reached) → StepIsAlike r → one_step (place xs bound needs) at w r ≡ one_step (place ys bound needs) at w r
  step_alike bound needs at w (by_index i) h = ap (λ (j : Judged). one_step (place xs bound needs) at w (by_index (λ c. j))) (h bound needs)
  step_alike bound needs at w (by_name sought place) h = refl

  steps_alike : (bound : List (List ℕ × Kind)) (needs : Bool) (at : ℕ) (w : Way) (rs : List Reached) → AllByRecursion StepIsAlike rs → fold (one_step (place xs bound needs) at) w rs ≡ fold (one_step (place ys bound needs) at) w rs
  steps_alike bound needs at w [] all = refl
  steps_alike bound needs at w (r ∷ rs) all =
      steps_alike bound needs at (one_step (place xs bound needs) at w r) rs all.1
      ∙ ap (λ (v : Way). fold (one_step (place ys bound needs) at) v rs) (step_alike bound needs at w r all.0)

  path_alike : (bound : List (List ℕ × Kind)) (needs : Bool) (at : ℕ) (k : Kind) (b : Bool) (v : Value) (rs : List Reached) → AllByRecursion StepIsAlike rs → path_from (place xs bound needs) at k b v rs ≡ path_from (place ys bound needs) at k b v rs
  path_alike bound needs at k b v rs all =
      let way = steps_alike bound needs at (record { kind = k; faults = [] }) rs all in
      λ i. given_whole at ((way i).faults ++ (if b then [] else no_constant (place xs bound needs) at)) (way i).kind v

  index_alike : (bound : List (List ℕ × Kind)) (needs : Bool) (r : Reached) → StepIsAlike r → index_faults (place xs bound needs) r ≡ index_faults (place ys bound needs) r
  index_alike bound needs (by_index i) h = ap (λ (j : Judged). j.faults) (h bound needs)
  index_alike bound needs (by_name sought at) h = refl

  indices_alike : (bound : List (List ℕ × Kind)) (needs : Bool) (rs : List Reached) → AllByRecursion StepIsAlike rs → flat_map (index_faults (place xs bound needs)) rs ≡ flat_map (index_faults (place ys bound needs)) rs
  indices_alike bound needs [] all = refl
  indices_alike bound needs (r ∷ rs) all =
      let here = index_alike bound needs r all.0 in
      let there = indices_alike bound needs rs all.1 in
      λ i. here i ++ there i

  thing_alike : (bound : List (List ℕ × Kind)) (needs : Bool) (at : ℕ) (rs : List Reached) → AllByRecursion StepIsAlike rs → (o : Option Thing) → thing_path (place xs bound needs) at rs o ≡ thing_path (place ys bound needs) at rs o
  thing_alike bound needs at rs all None = refl
  thing_alike bound needs at rs all (Some (constant b x)) = path_alike bound needs at (constant_kind b x) true (of_number x) rs all
  thing_alike bound needs at rs all (Some (type_of k)) = refl
  thing_alike bound needs at rs all (Some (code_in root c)) = path_alike bound needs at (element root (record { lo = pos c; hi = pos c })) false [] rs all
  thing_alike bound needs at rs all (Some (variable input k)) = path_alike bound needs at k false [] rs all
  thing_alike bound needs at rs all (Some later) =
      let before = indices_alike bound needs rs all in
      λ i. given_whole at (before i ++ no_constant (place xs bound needs) at) truth []

  named_alike : LookAlike xs ys → (bound : List (List ℕ × Kind)) (needs : Bool) (at : ℕ) (n : List ℕ) (rs : List Reached) → AllByRecursion StepIsAlike rs → (o : Option Kind) → bound_path (place xs bound needs) at n rs o ≡ bound_path (place ys bound needs) at n rs o
  named_alike alike bound needs at n rs all (Some k) = path_alike bound needs at k false [] rs all
  named_alike alike bound needs at n rs all None =
      thing_alike bound needs at rs all (under n xs) ∙ ap (λ (o : Option Thing). thing_path (place ys bound needs) at rs o) (alike.same n)

  -- ---- lists of parts

  all_alike : (bound : List (List ℕ × Kind)) (needs : Bool) (es : List Expr) → AllByRecursion IsAlike es → map (λ j. j (place xs bound needs)) (map judged es) ≡ map (λ j. j (place ys bound needs)) (map judged es)
  all_alike bound needs [] all = refl
  all_alike bound needs (e ∷ es) all =
      let here = all.0 bound needs in
      let there = all_alike bound needs es all.1 in
      λ i. here i ∷ there i

  values_alike : (bound : List (List ℕ × Kind)) (needs : Bool) (es : List Expr) → AllByRecursion IsAlike es → map (λ j. (j (place xs bound needs)).value) (map judged es) ≡ map (λ j. (j (place ys bound needs)).value) (map judged es)
  values_alike bound needs [] all = refl
  values_alike bound needs (e ∷ es) all =
      let here = all.0 bound needs in
      let there = values_alike bound needs es all.1 in
      λ i. (here i).value ∷ there i

  of_all_alike : (at : ℕ) (es : List Expr) (rule : Ends → Ends → Ends) (f : List Value → ℤ) → AllByRecursion IsAlike es → SameIn (λ c. made_of_all at (map (λ j. j c) (map judged es)) rule (f (map (λ j. (j c).value) (map judged es))))
  of_all_alike at es rule f all bound needs =
      let parts = all_alike bound needs es all in
      let values = values_alike bound needs es all in
      λ i. made_of_all at (parts i) rule (f (values i))

  -- operands that are the same
  abbrev AreAlikeLinks : List Linked → Type 0
  AreAlikeLinks = AllByRecursion (λ l. SameIn l.with)

  links_alike : (ls : List Link) → AllByRecursion (λ l. IsAlike l.with) ls → AreAlikeLinks (map link_said ls)
  links_alike [] all = tt
  links_alike (l ∷ ls) all = (all.0, links_alike ls all.1)

  reaches_alike : (rs : List Reach) → AllByRecursion ReachIsAlike rs → AllByRecursion StepIsAlike (map reach_said rs)
  reaches_alike [] all = tt
  reaches_alike (r ∷ rs) all = (all.0, reaches_alike rs all.1)

  from_alike : (bound : List (List ℕ × Kind)) (needs : Bool) (ls : List Linked) → AreAlikeLinks ls → (j k : Judged) → j ≡ k → fold (one_link (place xs bound needs)) j ls ≡ fold (one_link (place ys bound needs)) k ls
  from_alike bound needs [] all j k p = p
  from_alike bound needs (l ∷ ls) all j k p =
      let c = place xs bound needs in
      let right = all.0 bound needs in
      let next : one_link (place xs bound needs) j l ≡ one_link (place ys bound needs) k l = λ i. one_link c (p i) (record { op = l.op; at = l.at; with = λ d. right i }) in
      from_alike bound needs ls all.1 (one_link (place xs bound needs) j l) (one_link (place ys bound needs) k l) next

  operands_alike : (bound : List (List ℕ × Kind)) (needs : Bool) (ls : List Linked) → AreAlikeLinks ls → map {B = Op × Value} (λ (l : Linked). (l.op, (l.with (place xs bound needs)).value)) ls ≡ map {B = Op × Value} (λ (l : Linked). (l.op, (l.with (place ys bound needs)).value)) ls
  operands_alike bound needs [] all = refl
  operands_alike bound needs (l ∷ ls) all =
      let here = all.0 bound needs in
      let there = operands_alike bound needs ls all.1 in
      λ i. (l.op, (here i).value) ∷ there i

  chain_alike : (at : ℕ) (j : In Judged) (ls : List Linked) → AreAlikeLinks ls → SameIn j → SameIn (λ c. chain_of c at (j c) ls)
  chain_alike at j ls all h bound needs =
      let first = h bound needs in
      let chain = from_alike bound needs ls all (j (place xs bound needs)) (j (place ys bound needs)) first in
      let operands = operands_alike bound needs ls all in
      λ i. given_whole at (chain i).faults (chain i).kind (chained (first i).value (operands i))

  branches_alike : (bound : List (List ℕ × Kind)) (needs : Bool) (bs : List Branch) → AllByRecursion BranchIsAlike bs → all_in (place xs bound needs) (map branch_said bs) ≡ all_in (place ys bound needs) (map branch_said bs)
  branches_alike bound needs [] all = refl
  branches_alike bound needs (b ∷ bs) all =
      let test = all.0.0 bound needs in
      let gives = all.0.1 bound needs in
      let there = branches_alike bound needs bs all.1 in
      λ i. (test i, gives i) ∷ there i

  -- ---- forms

  alike_number : (e : Expr) (n : ℤ) → e.form ≡ Number n → IsAlike e
  alike_number e n is bound needs = judged-number e n is (place xs bound needs) ∙ sym (judged-number e n is (place ys bound needs))

  alike_truth : (e : Expr) (b : Bool) → e.form ≡ Truth b → IsAlike e
  alike_truth e b is bound needs = judged-truth e b is (place xs bound needs) ∙ sym (judged-truth e b is (place ys bound needs))

  alike_path : LookAlike xs ys → (e : Expr) (n : Name) (rs : List Reach) → e.form ≡ Path n rs → AllByRecursion ReachIsAlike rs → IsAlike e
  alike_path alike e n rs is all bound needs =
      judged-path e n rs is (place xs bound needs)
      ∙ named_alike alike bound needs e.at n.text (map reach_said rs) (reaches_alike rs all) (under n.text bound)
      ∙ sym (judged-path e n rs is (place ys bound needs))

  alike_chain : (e first : Expr) (ls : List Link) → e.form ≡ Chain first ls → IsAlike first → AllByRecursion (λ l. IsAlike l.with) ls → IsAlike e
  alike_chain e first ls is f all bound needs =
      judged-chain e first ls is (place xs bound needs)
      ∙ chain_alike e.at (judged first) (map link_said ls) (links_alike ls all) f bound needs
      ∙ sym (judged-chain e first ls is (place ys bound needs))

  alike_compare : (e : Expr) (o : Cmp) (a b : Expr) → e.form ≡ Compare o a b → IsAlike a → IsAlike b → IsAlike e
  alike_compare e o a b is f g bound needs =
      let x = f bound needs in
      let y = g bound needs in
      judged-compare e o a b is (place xs bound needs)
      ∙ (λ i. given_whole e.at ((x i).faults ++ ((y i).faults ++ comparison_faults o (x i) (y i))) truth (of_truth (compared o (number (x i).value) (number (y i).value))))
      ∙ sym (judged-compare e o a b is (place ys bound needs))

  alike_minus : (e inner : Expr) → e.form ≡ Minus inner → IsAlike inner → IsAlike e
  alike_minus e inner is f bound needs =
      judged-minus e inner is (place xs bound needs) ∙ ap (λ (j : Judged). made_of e.at j negation neg_ℤ) (f bound needs) ∙ sym (judged-minus e inner is (place ys bound needs))

  alike_not : (e inner : Expr) → e.form ≡ Not inner → IsAlike inner → IsAlike e
  alike_not e inner is f bound needs =
      judged-not e inner is (place xs bound needs)
      ∙ ap (λ (j : Judged). given_whole e.at (j.faults ++ wants_truth j) truth (of_truth (not (is_true j.value)))) (f bound needs)
      ∙ sym (judged-not e inner is (place ys bound needs))

  alike_choice : (e : Expr) (bs : List Branch) (otherwise : Expr) → e.form ≡ Choice bs otherwise → AllByRecursion BranchIsAlike bs → IsAlike otherwise → IsAlike e
  alike_choice e bs otherwise is all f bound needs =
      let x = branches_alike bound needs bs all in
      let y = f bound needs in
      judged-choice e bs otherwise is (place xs bound needs) ∙ (λ i. choice_of e.at (x i) (y i)) ∙ sym (judged-choice e bs otherwise is (place ys bound needs))

  alike_group : (e : Expr) (es : List Expr) → e.form ≡ Group es → AllByRecursion IsAlike es → IsAlike e
  alike_group e es is all bound needs =
      judged-group e es is (place xs bound needs) ∙ ap (λ (js : List Judged). group_at (place xs bound needs) e.at js) (all_alike bound needs es all) ∙ sym (judged-group e es is (place ys bound needs))

  alike_quantified : (e : Expr) (q : Quant) (n : Name) (d : Domain) (body : Expr) → e.form ≡ Quantified q n d body → DomainIsAlike d → IsAlike body → IsAlike e
  alike_quantified e q n d body is f g bound needs =
      let x = f bound needs in
      judged-quantified e q n d body is (place xs bound needs)
      ∙ (λ i. quantified_at (place xs bound needs) e.at q n.text (x i) (λ c. g ((n.text, (x i).kind) ∷ bound) needs i))
      ∙ sym (judged-quantified e q n d body is (place ys bound needs))

  alike_pre_alone : (e body : Expr) → e.form ≡ Pre body None → IsAlike body → IsAlike e
  alike_pre_alone e body is f bound needs =
      judged-pre_alone e body is (place xs bound needs) ∙ ap (λ (j : Judged). pre_alone (place xs bound needs) e.at j) (f bound needs) ∙ sym (judged-pre_alone e body is (place ys bound needs))

  alike_pre_with : (e body first : Expr) → e.form ≡ Pre body (Some first) → IsAlike body → IsAlike first → IsAlike e
  alike_pre_with e body first is f g bound needs =
      let x = f bound needs in
      let y = g bound needs in
      judged-pre_with e body first is (place xs bound needs) ∙ (λ i. pre_with (place xs bound needs) e.at (x i) (y i)) ∙ sym (judged-pre_with e body first is (place ys bound needs))

  alike_least : (e : Expr) (es : List Expr) → e.form ≡ Least es → AllByRecursion IsAlike es → IsAlike e
  alike_least e es is all bound needs =
      judged-least e es is (place xs bound needs) ∙ of_all_alike e.at es smaller least all bound needs ∙ sym (judged-least e es is (place ys bound needs))

  alike_greatest : (e : Expr) (es : List Expr) → e.form ≡ Greatest es → AllByRecursion IsAlike es → IsAlike e
  alike_greatest e es is all bound needs =
      judged-greatest e es is (place xs bound needs) ∙ of_all_alike e.at es greater greatest all bound needs ∙ sym (judged-greatest e es is (place ys bound needs))

  alike_size : (e inner : Expr) → e.form ≡ Size inner → IsAlike inner → IsAlike e
  alike_size e inner is f bound needs =
      judged-size e inner is (place xs bound needs) ∙ ap (λ (j : Judged). made_of e.at j absolute (λ x. pos (unsigned_abs x))) (f bound needs) ∙ sym (judged-size e inner is (place ys bound needs))

  alike_starting : (e : Expr) → e.form ≡ Starting → IsAlike e
  alike_starting e is bound needs = judged-starting e is (place xs bound needs) ∙ sym (judged-starting e is (place ys bound needs))

  alike_within : (e inner : Expr) (i : Interval) → e.form ≡ Within inner i → IsAlike inner → IsAlike e
  alike_within e inner range is f bound needs =
      judged-within e inner range is (place xs bound needs)
      ∙ ap (λ (j : Judged). given_whole e.at (j.faults ++ (wants_whole j ++ no_constant (place xs bound needs) e.at)) truth []) (f bound needs)
      ∙ sym (judged-within e inner range is (place ys bound needs))

  -- ---- domains and steps

  alike_bounds : (a b : Expr) → IsAlike a → IsAlike b → DomainIsAlike (Bounds a b)
  alike_bounds a b f g bound needs =
      let x = f bound true in
      let y = g bound true in
      domain_said-bounds a b (place xs bound needs) ∙ (λ i. bounds_of (x i) (y i)) ∙ sym (domain_said-bounds a b (place ys bound needs))

  alike_truths : DomainIsAlike Truths
  alike_truths bound needs = domain_said-truths (place xs bound needs) ∙ sym (domain_said-truths (place ys bound needs))

  domain_alike : LookAlike xs ys → (bound : List (List ℕ × Kind)) (needs : Bool) (n : Name) (o : Option Kind) → bound_domain (place xs bound needs) n o ≡ bound_domain (place ys bound needs) n o
  domain_alike alike bound needs n (Some k) = refl
  domain_alike alike bound needs n None = ap (thing_domain n.at) (alike.same n.text)

  alike_named : LookAlike xs ys → (n : Name) → DomainIsAlike (Named n)
  alike_named alike n bound needs = domain_said-named n (place xs bound needs) ∙ domain_alike alike bound needs n (under n.text bound) ∙ sym (domain_said-named n (place ys bound needs))

  alike_at : (e : Expr) → IsAlike e → ReachIsAlike (At e)
  alike_at e f = subst StepIsAlike (sym (reach_said-at e)) f

  alike_field : (n : Name) → ReachIsAlike (Field n)
  alike_field n = subst StepIsAlike (sym (reach_said-field n)) tt

  -- ---- any depth

  abbrev D : Type 0
  D = (d : Domain) × DomainIsAlike d

  abbrev F : Type 0
  F = (f : Form) × ((at : ℕ) → IsAlike (roll-Expr (record { at = at; form = f })))

  abbrev R : Type 0
  R = (r : Reach) × ReachIsAlike r

  abbrev B : Type 0
  B = (b : Branch) × BranchIsAlike b

  abbrev E : Type 0
  E = (e : Expr) × IsAlike e

  abbrev L : Type 0
  L = (l : Link) × IsAlike l.with

  abbrev forms : Form-F D F R B E L → Form-F Domain Form Reach Branch Expr Link
  forms = map-Form D F R B E L Domain Form Reach Branch Expr Link (λ z. z.0) (λ z. z.0) (λ z. z.0) (λ z. z.0) (λ z. z.0) (λ z. z.0)

  form_step : LookAlike xs ys → (y : Form-F D F R B E L) (at : ℕ) → IsAlike (made (forms y) at)
  form_step alike (Form-F.Number n) at = alike_number (made (Form-F.Number n) at) n (rolls-Number n)
  form_step alike (Form-F.Truth b) at = alike_truth (made (Form-F.Truth b) at) b (rolls-Truth b)
  form_step alike (Form-F.Path n rs) at = alike_path alike (made (forms (Form-F.Path n rs)) at) n (map (λ z. z.0) rs) (rolls-Path n (map (λ z. z.0) rs)) (each_has ReachIsAlike rs)
  form_step alike (Form-F.Chain first ls) at = alike_chain (made (forms (Form-F.Chain first ls)) at) first.0 (map (λ z. z.0) ls) (rolls-Chain first.0 (map (λ z. z.0) ls)) first.1 (each_has (λ l. IsAlike l.with) ls)
  form_step alike (Form-F.Compare o a b) at = alike_compare (made (forms (Form-F.Compare o a b)) at) o a.0 b.0 (rolls-Compare o a.0 b.0) a.1 b.1
  form_step alike (Form-F.Minus x) at = alike_minus (made (forms (Form-F.Minus x)) at) x.0 (rolls-Minus x.0) x.1
  form_step alike (Form-F.Not x) at = alike_not (made (forms (Form-F.Not x)) at) x.0 (rolls-Not x.0) x.1
  form_step alike (Form-F.Choice bs x) at = alike_choice (made (forms (Form-F.Choice bs x)) at) (map (λ z. z.0) bs) x.0 (rolls-Choice (map (λ z. z.0) bs) x.0) (each_has BranchIsAlike bs) x.1
  form_step alike (Form-F.Group es) at = alike_group (made (forms (Form-F.Group es)) at) (map (λ z. z.0) es) (rolls-Group (map (λ z. z.0) es)) (each_has IsAlike es)
  form_step alike (Form-F.Quant q n d x) at = alike_quantified (made (forms (Form-F.Quant q n d x)) at) q n d.0 x.0 (rolls-Quant q n d.0 x.0) d.1 x.1
  form_step alike (Form-F.Pre x None) at = alike_pre_alone (made (forms (Form-F.Pre x None)) at) x.0 (rolls-Pre x.0 None) x.1
  form_step alike (Form-F.Pre x (Some first)) at = alike_pre_with (made (forms (Form-F.Pre x (Some first))) at) x.0 first.0 (rolls-Pre x.0 (Some first.0)) x.1 first.1
  form_step alike (Form-F.Least es) at = alike_least (made (forms (Form-F.Least es)) at) (map (λ z. z.0) es) (rolls-Least (map (λ z. z.0) es)) (each_has IsAlike es)
  form_step alike (Form-F.Greatest es) at = alike_greatest (made (forms (Form-F.Greatest es)) at) (map (λ z. z.0) es) (rolls-Greatest (map (λ z. z.0) es)) (each_has IsAlike es)
  form_step alike (Form-F.Size x) at = alike_size (made (forms (Form-F.Size x)) at) x.0 (rolls-Size x.0) x.1
  form_step alike Form-F.Starting at = alike_starting (made Form-F.Starting at) rolls-Starting
  form_step alike (Form-F.Within x i) at = alike_within (made (forms (Form-F.Within x i)) at) x.0 i (rolls-Within x.0 i) x.1

  reach_step : (y : Reach-F D F R B E L) → ReachIsAlike (roll-Reach (map-Reach D F R B E L Domain Form Reach Branch Expr Link (λ z. z.0) (λ z. z.0) (λ z. z.0) (λ z. z.0) (λ z. z.0) (λ z. z.0) y))
  reach_step (Reach-F.At e) = subst ReachIsAlike (sym (rolls-At e.0)) (alike_at e.0 e.1)
  reach_step (Reach-F.Field n) = subst ReachIsAlike (sym (rolls-Field n)) (alike_field n)

  domain_step : LookAlike xs ys → (y : Domain-F D F R B E L) → DomainIsAlike (roll-Domain (map-Domain D F R B E L Domain Form Reach Branch Expr Link (λ z. z.0) (λ z. z.0) (λ z. z.0) (λ z. z.0) (λ z. z.0) (λ z. z.0) y))
  domain_step alike (Domain-F.Bounds a b) = subst DomainIsAlike (sym (rolls-Bounds a.0 b.0)) (alike_bounds a.0 b.0 a.1 b.1)
  domain_step alike Domain-F.Bool = subst DomainIsAlike (sym rolls-Bool) alike_truths
  domain_step alike (Domain-F.Named n) = subst DomainIsAlike (sym (rolls-Named n)) (alike_named alike n)

  pub judged_alike : LookAlike xs ys → (e : Expr) → IsAlike e
  judged_alike alike = ind-Expr DomainIsAlike (λ f. (at : ℕ) → IsAlike (roll-Expr (record { at = at; form = f }))) ReachIsAlike BranchIsAlike IsAlike (λ l. IsAlike l.with)
      (λ x y is. subst (λ z. DomainIsAlike (roll-Domain z)) is (domain_step alike y))
      (λ x y is. subst (λ z. (at : ℕ) → IsAlike (roll-Expr (record { at = at; form = roll-Form z }))) is (form_step alike y))
      (λ x y is. subst (λ z. ReachIsAlike (roll-Reach z)) is (reach_step y))
      (λ x y is. subst (λ z. BranchIsAlike (roll-Branch z)) is (y.when.1, y.gives.1))
      (λ x y is. subst (λ z. IsAlike (roll-Expr z)) is (y.form.1 y.at))
      (λ x y is. subst (λ (z : _). IsAlike (roll-Link z).with) is y.with.1)
