-- What is answered of an expression, by what is answered of its parts, form by form.
use Rattle.std.proofs.Common.{◌≡◌, ℕ, ℤ, pos, neg_ℤ, unsigned_abs, Bool, true, false, List, [], ◌∷◌, ◌++◌, map, length, Option, Some, None, Result, Ok, Err, refl, sym, ap, subst, ◌∙◌}
use Rattle.std.specs.Prelude.{option_map}
use Rattle.std.specs.List.{flat_map}
use Rattle.std.specs.Result.{IsErrAnd}
use Rattle.intervals.specs.Ends.{Ends}
use Rattle.intervals.specs.Rules.{negation, absolute}
use Rattle.intervals.specs.declared.interval.Interval.{Interval}
use Rattle.hll_tree.specs.declared.tree.Branch.{Branch}
use Rattle.hll_tree.specs.declared.tree.Cmp.{Cmp}
use Rattle.hll_tree.specs.declared.tree.Domain.{Domain, Bounds, Bool as Truths, Named}
use Rattle.hll_tree.specs.declared.tree.Expr.{Expr}
use Rattle.hll_tree.specs.declared.tree.Form.{Number, Truth, Path, Chain, Compare, Minus, Not, Choice, Group, Quant as Quantified, Pre, Least, Greatest, Size, Starting, Within}
use Rattle.hll_tree.specs.declared.tree.Link.{Link}
use Rattle.hll_tree.specs.declared.tree.Name.{Name}
use Rattle.hll_tree.specs.declared.tree.Quant.{Quant}
use Rattle.hll_tree.specs.declared.tree.Reach.{Reach}
use Rattle.hll_meaning.specs.declared.ty.Ty.{Ty, Int, Bool as TruthTy}
use Rattle.hll_meaning.specs.Kinds.{truth}
use Rattle.hll_meaning.specs.Names.{under}
use Rattle.hll_meaning.specs.Types.{kind_of}
use Rattle.hll_meaning.specs.Values.{of_truth}
use Rattle.hll_meaning.specs.Fitting.{is_scalar}
use Rattle.hll_meaning.specs.Judging.{Context, Judged, Ranged, for_constant, inside_bind, given_whole, no_constant, all_faults, all_in, bound_domain, bound_path, chain_of, choice_of, group_at, made_of, quantified_at, pre_alone, pre_with, pre_at, judged}
use Rattle.hll_meaning.proofs.JudgedForms.{branch_said, domain_said, link_said, reach_said, judged-number, judged-truth, judged-path, judged-chain, judged-compare, judged-minus, judged-not, judged-choice, judged-quantified, judged-size, judged-starting, judged-within, domain_said-bounds, domain_said-truths, domain_said-named}
use Rattle.hll_expressions.specs.declared.faults.StaticFault.{StaticFault}
use Rattle.hll_expressions.specs.declared.given.Given.{Given}
use Rattle.hll_expressions.specs.Answers.{IsFaultAt}
use Rattle.hll_expressions.specs.Choices.{AreBranches}
use Rattle.hll_expressions.specs.Described.{Describes, IsAnswer}
use Rattle.hll_expressions.specs.Forms.{number_said, not_said, compared_said, within_said, extreme_said, AreBounds, IsDomain, IsQuantified}
use Rattle.hll_expressions.proofs.FaultFolds.{handed}
use Rattle.hll_expressions.proofs.KindForms.{kind_of_bool, kind_of_int}
use Rattle.hll_expressions.proofs.Firsts.{before, behind}
use Rattle.hll_expressions.proofs.ChainLemmas.{first_fails}
use Rattle.hll_expressions.proofs.JudgeLemmas.{answer_as, fault_as, is_group, is_least, is_greatest, is_pre, branches_first}

-- the fault of a part is handed on
pub exit : (needs : Bool) (j : Judged) (r : Result Given StaticFault) (f : StaticFault) → IsErrAnd r (λ e. e ≡ f) → IsFaultAt j.faults f → IsAnswer needs j r
exit needs j r f h q = handed (λ g. Describes needs g j) (IsFaultAt j.faults) r f h q

pub domain_exit : (d : Ranged) (r : Result Ty StaticFault) (f : StaticFault) → IsErrAnd r (λ e. e ≡ f) → IsFaultAt d.faults f → IsDomain d r
domain_exit d r f h q = handed (λ t. (d.faults ≡ []) × (kind_of t ≡ d.kind) × (is_scalar d.kind ≡ true)) (IsFaultAt d.faults) r f h q

-- ---- what is said of a form is said of its expression

module _ (e : Expr) (c : Context) (needs : Bool) (result : Result Given StaticFault) where
  pub judges_number : (n m : ℤ) → e.form ≡ Number n → m ≡ n → ((b : Bool) → IsAnswer b (number_said e.at m) result) → IsAnswer needs (judged e c) result
  judges_number n m is same h = answer_as needs (judged e c) (number_said e.at m) result (judged-number e m (is ∙ ap Number (sym same)) c) (h needs)

  pub judges_path : (n : Name) (rs : List Reach) → e.form ≡ Path n rs → IsAnswer needs (bound_path c e.at n.text (map reach_said rs) (under n.text c.bound)) result → IsAnswer needs (judged e c) result
  judges_path n rs is h = answer_as needs (judged e c) _ result (judged-path e n rs is c) h

  pub judges_chain : (first : Expr) (links : List Link) → e.form ≡ Chain first links → IsAnswer needs (chain_of c e.at (judged first c) (map link_said links)) result → IsAnswer needs (judged e c) result
  judges_chain first links is h = answer_as needs (judged e c) _ result (judged-chain e first links is c) h

  pub judges_compare : (o : Cmp) (a b : Expr) → e.form ≡ Compare o a b → IsAnswer needs (compared_said e.at o (judged a c) (judged b c)) result → IsAnswer needs (judged e c) result
  judges_compare o a b is h = answer_as needs (judged e c) _ result (judged-compare e o a b is c) h

  pub judges_minus : (inner : Expr) → e.form ≡ Minus inner → IsAnswer needs (made_of e.at (judged inner c) negation neg_ℤ) result → IsAnswer needs (judged e c) result
  judges_minus inner is h = answer_as needs (judged e c) _ result (judged-minus e inner is c) h

  pub judges_size : (inner : Expr) → e.form ≡ Size inner → IsAnswer needs (made_of e.at (judged inner c) absolute (λ x. pos (unsigned_abs x))) result → IsAnswer needs (judged e c) result
  judges_size inner is h = answer_as needs (judged e c) _ result (judged-size e inner is c) h

  pub judges_not : (inner : Expr) → e.form ≡ Not inner → IsAnswer needs (not_said e.at (judged inner c)) result → IsAnswer needs (judged e c) result
  judges_not inner is h = answer_as needs (judged e c) _ result (judged-not e inner is c) h

  pub judges_within : (inner part : Expr) (i : Interval) → e.form ≡ Within inner i → part ≡ inner → IsAnswer needs (within_said c e.at (judged part c)) result → IsAnswer needs (judged e c) result
  judges_within inner part i is seen h = answer_as needs (judged e c) _ result (judged-within e part i (is ∙ ap (λ x. Within x i) (sym seen)) c) h

  pub judges_starting : e.form ≡ Starting → IsAnswer needs (given_whole e.at (no_constant c e.at) truth []) result → IsAnswer needs (judged e c) result
  judges_starting is h = answer_as needs (judged e c) _ result (judged-starting e is c) h

  pub judges_choice : (branches : List Branch) (otherwise : Expr) → e.form ≡ Choice branches otherwise → IsAnswer needs (choice_of e.at (all_in c (map branch_said branches)) (judged otherwise c)) result → IsAnswer needs (judged e c) result
  judges_choice branches otherwise is h = answer_as needs (judged e c) _ result (judged-choice e branches otherwise is c) h

  pub judges_group : (es : List Expr) → e.form ≡ Group es → IsAnswer needs (group_at c e.at (map (λ e. judged e c) es)) result → IsAnswer needs (judged e c) result
  judges_group es is h = answer_as needs (judged e c) _ result (is_group e es is c) h

  pub judges_quantified : (q : Quant) (n : Name) (d : Domain) (body : Expr) → e.form ≡ Quantified q n d body → IsAnswer needs (quantified_at c e.at q n.text (domain_said d c) (judged body)) result → IsAnswer needs (judged e c) result
  judges_quantified q n d body is h = answer_as needs (judged e c) _ result (judged-quantified e q n d body is c) h

  pub judges_pre : (body : Expr) (first : Option Expr) → e.form ≡ Pre body first → IsAnswer needs (pre_at c e.at (judged body c) (option_map judged first)) result → IsAnswer needs (judged e c) result
  judges_pre body first is h = answer_as needs (judged e c) _ result (is_pre e body first is c) h

  pub judges_least : (es : List Expr) → e.form ≡ Least es → IsAnswer needs (extreme_said e.at false (map (λ e. judged e c) es)) result → IsAnswer needs (judged e c) result
  judges_least es is h = answer_as needs (judged e c) _ result (is_least e es is c) h

  pub judges_greatest : (es : List Expr) → e.form ≡ Greatest es → IsAnswer needs (extreme_said e.at true (map (λ e. judged e c) es)) result → IsAnswer needs (judged e c) result
  judges_greatest es is h = answer_as needs (judged e c) _ result (is_greatest e es is c) h

pub judges_truth : (e : Expr) (b : Bool) (c : Context) (needs : Bool) (g : Given) → e.form ≡ Truth b → ((n : Bool) → Describes n g (given_whole e.at [] truth (of_truth b))) → Describes needs g (judged e c)
judges_truth e b c needs g is h = subst (λ (j : Judged). Describes needs g j) (sym (judged-truth e b is c)) (h needs)

-- ---- the fault of a part that is walked first

module _ (e : Expr) (c : Context) (f : StaticFault) where
  pub chain_part : (first : Expr) (links : List Link) → e.form ≡ Chain first links → IsFaultAt (judged first c).faults f → IsFaultAt (judged e c).faults f
  chain_part first links is h = fault_as (judged e c) _ f (judged-chain e first links is c) (first_fails c e.at (judged first c) (map link_said links) f h)

  pub compare_left : (o : Cmp) (a b : Expr) → e.form ≡ Compare o a b → IsFaultAt (judged a c).faults f → IsFaultAt (judged e c).faults f
  compare_left o a b is h = fault_as (judged e c) _ f (judged-compare e o a b is c) (before (judged a c).faults _ f h)

  pub choice_branches : (branches : List Branch) (otherwise : Expr) → e.form ≡ Choice branches otherwise → IsFaultAt (flat_map (λ b. b.0.faults ++ b.1.faults) (all_in c (map branch_said branches))) f → IsFaultAt (judged e c).faults f
  choice_branches branches otherwise is h = fault_as (judged e c) _ f (judged-choice e branches otherwise is c) (branches_first e.at (all_in c (map branch_said branches)) (judged otherwise c) f h)

  pub quantified_domain : (q : Quant) (n : Name) (d : Domain) (body : Expr) → e.form ≡ Quantified q n d body → IsFaultAt (domain_said d c).faults f → IsFaultAt (judged e c).faults f
  quantified_domain q n d body is h = fault_as (judged e c) _ f (judged-quantified e q n d body is c) (before (domain_said d c).faults _ f h)

  pub pre_part : (body : Expr) (first : Option Expr) → e.form ≡ Pre body first → IsFaultAt (judged body c).faults f → IsFaultAt (judged e c).faults f
  pre_part body first is h = fault_as (judged e c) _ f (is_pre e body first is c) (pre_first first)
    where
      pre_first : (first : Option Expr) → IsFaultAt (pre_at c e.at (judged body c) (option_map judged first)).faults f
      pre_first None = before (judged body c).faults _ f h
      pre_first (Some first) = before (judged body c).faults _ f h

-- ---- behind a part

pub made_part : (at : ℕ) (j : Judged) (rule : Ends → Ends) (value : ℤ → ℤ) (f : StaticFault) → IsFaultAt j.faults f → IsFaultAt (made_of at j rule value).faults f
made_part at j rule value f h = before j.faults _ f h

pub not_part : (at : ℕ) (j : Judged) (f : StaticFault) → IsFaultAt j.faults f → IsFaultAt (not_said at j).faults f
not_part at j f h = before j.faults _ f h

pub within_part : (c : Context) (at : ℕ) (j : Judged) (f : StaticFault) → IsFaultAt j.faults f → IsFaultAt (within_said c at j).faults f
within_part c at j f h = before j.faults _ f h

pub compare_right : (at : ℕ) (o : Cmp) (a b : Judged) (needs : Bool) (g : Given) (f : StaticFault) → Describes needs g a → IsFaultAt b.faults f → IsFaultAt (compared_said at o a b).faults f
compare_right at o a b needs g f d h = behind a.faults _ f d.faultless (before b.faults _ f h)

pub group_parts : (c : Context) (at : ℕ) (js : List Judged) (f : StaticFault) → IsFaultAt (all_faults js) f → IsFaultAt (group_at c at js).faults f
group_parts c at js f h = before (all_faults js) _ f h

pub extreme_parts : (at : ℕ) (greatest : Bool) (js : List Judged) (f : StaticFault) → IsFaultAt (all_faults js) f → IsFaultAt (extreme_said at greatest js).faults f
extreme_parts at true js f h = before (all_faults js) _ f h
extreme_parts at false js f h = before (all_faults js) _ f h

-- conditions and what stands for each are as many
pub branches_match : (needs : Bool) (ts gs : List Given) (bs : List (Judged × Judged)) → AreBranches needs ts gs bs → length ts ≡ length gs
branches_match needs [] [] [] all = refl
branches_match needs [] [] (b ∷ bs) all = absurd all
branches_match needs [] (h ∷ gs) bs all = absurd all
branches_match needs (u ∷ ts) [] bs all = absurd all
branches_match needs (u ∷ ts) (h ∷ gs) [] all = absurd all
branches_match needs (u ∷ ts) (h ∷ gs) (b ∷ bs) all = let same : length ts ≡ length gs = branches_match needs ts gs bs all.2 in cc

-- ---- quantifiers

body_as : (n : List ℕ) (r : Ranged) (body : Expr) (c : Context) (t : Ty) → kind_of t ≡ r.kind → judged body (inside_bind n (kind_of t) c) ≡ judged body (inside_bind n r.kind c)
body_as n r body c t same = ap (λ k. judged body (inside_bind n k c)) same

pub quantified_body : (c : Context) (at : ℕ) (q : Quant) (n : List ℕ) (r : Ranged) (body : Expr) (t : Ty) (f : StaticFault) → IsDomain r (Ok t) → IsFaultAt (judged body (inside_bind n (kind_of t) c)).faults f →
    IsFaultAt (quantified_at c at q n r (judged body)).faults f
quantified_body c at q n r body t f of h =
    behind r.faults _ f of.0 (before (judged body (inside_bind n r.kind c)).faults _ f (subst (λ (j : Judged). IsFaultAt j.faults f) (body_as n r body c t of.1) h))

pub quantified_answer : (c : Context) (at : ℕ) (q : Quant) (n : List ℕ) (r : Ranged) (body : Expr) (t : Ty) (g : Given) (needs : Bool) (result : Result Given StaticFault) → c.needs_constant ≡ needs → IsDomain r (Ok t) →
    Describes needs g (judged body (inside_bind n (kind_of t) c)) → IsQuantified at q t g needs result → IsAnswer needs (quantified_at c at q n r (judged body)) result
quantified_answer c at q n r body t g needs result same of d h =
    h c r (judged body (inside_bind n r.kind c)) same of.0 of.1 of.2 (subst (λ (j : Judged). Describes needs g j) (body_as n r body c t of.1) d)

-- ---- `pre`

pub first_none : (c : Context) (at : ℕ) (j : Judged) (first : Option Expr) (f : StaticFault) → first ≡ None → IsFaultAt (pre_alone c at j).faults f → IsFaultAt (pre_at c at j (option_map judged first)).faults f
first_none c at j first f is h = subst (λ (o : Option Expr). IsFaultAt (pre_at c at j (option_map judged o)).faults f) (sym is) h

pub first_part : (c : Context) (at : ℕ) (needs : Bool) (g : Given) (j : Judged) (first : Option Expr) (e : Expr) (f : StaticFault) → first ≡ Some e → Describes needs g j → IsFaultAt (judged e c).faults f →
    IsFaultAt (pre_at c at j (option_map judged first)).faults f
first_part c at needs g j first e f is d h =
    subst (λ (o : Option Expr). IsFaultAt (pre_at c at j (option_map judged o)).faults f) (sym is) (behind j.faults _ f d.faultless (before (judged e c).faults _ f h))

pub first_some : (c : Context) (at : ℕ) (needs : Bool) (j : Judged) (first : Option Expr) (e : Expr) (result : Result Given StaticFault) → first ≡ Some e → IsAnswer needs (pre_with c at j (judged e c)) result →
    IsAnswer needs (pre_at c at j (option_map judged first)) result
first_some c at needs j first e result is h = subst (λ (o : Option Expr). IsAnswer needs (pre_at c at j (option_map judged o)) result) (sym is) h

-- ---- domains

pub domain_lowest : (d : Domain) (a b : Expr) (c : Context) (f : StaticFault) → d ≡ Bounds a b → IsFaultAt (judged a (for_constant c)).faults f → IsFaultAt (domain_said d c).faults f
domain_lowest d a b c f is h = subst (λ (x : Domain). IsFaultAt (domain_said x c).faults f) (sym is) (subst (λ r. IsFaultAt r.faults f) (sym (domain_said-bounds a b c)) (before (judged a (for_constant c)).faults _ f h))

pub domain_greatest : (d : Domain) (a b : Expr) (c : Context) (g : Given) (f : StaticFault) → d ≡ Bounds a b → Describes true g (judged a (for_constant c)) → IsFaultAt (judged b (for_constant c)).faults f → IsFaultAt (domain_said d c).faults f
domain_greatest d a b c g f is dg h =
    subst (λ (x : Domain). IsFaultAt (domain_said x c).faults f) (sym is)
    (subst (λ r. IsFaultAt r.faults f) (sym (domain_said-bounds a b c)) (behind (judged a (for_constant c)).faults _ f dg.faultless (before (judged b (for_constant c)).faults _ f h)))

pub domain_wrong : (d : Domain) (a b : Expr) (c : Context) (g h : Given) (f : StaticFault) → d ≡ Bounds a b → Describes true g (judged a (for_constant c)) → Describes true h (judged b (for_constant c)) → AreBounds g h (Err f) →
    IsFaultAt (domain_said d c).faults f
domain_wrong d a b c g h f is dg dh are =
    subst (λ (x : Domain). IsFaultAt (domain_said x c).faults f) (sym is) (subst (λ r. IsFaultAt r.faults f) (sym (domain_said-bounds a b c)) (are (judged a (for_constant c)) (judged b (for_constant c)) dg dh))

pub domain_bounds : (d : Domain) (a b : Expr) (c : Context) (g h : Given) (i : Interval) → d ≡ Bounds a b → Describes true g (judged a (for_constant c)) → Describes true h (judged b (for_constant c)) → AreBounds g h (Ok i) →
    IsDomain (domain_said d c) (Ok (Int i))
domain_bounds d a b c g h i is dg dh are =
    let p = are (judged a (for_constant c)) (judged b (for_constant c)) dg dh in
    subst (λ (x : Domain). IsDomain (domain_said x c) (Ok (Int i))) (sym is) (subst (λ r. IsDomain r (Ok (Int i))) (sym (domain_said-bounds a b c)) (p.0, kind_of_int i ∙ p.1, refl))

pub domain_truths : (d : Domain) (c : Context) → d ≡ Truths → IsDomain (domain_said d c) (Ok TruthTy)
domain_truths d c is = subst (λ (x : Domain). IsDomain (domain_said x c) (Ok TruthTy)) (sym is) (subst (λ r. IsDomain r (Ok TruthTy)) (sym (domain_said-truths c)) (refl, kind_of_bool, refl))

pub domain_named : (d : Domain) (n : Name) (c : Context) (result : Result Ty StaticFault) → d ≡ Named n → IsDomain (bound_domain c n (under n.text c.bound)) result → IsDomain (domain_said d c) result
domain_named d n c result is h = subst (λ (x : Domain). IsDomain (domain_said x c) result) (sym is) (subst (λ r. IsDomain r result) (sym (domain_said-named n c)) h)
