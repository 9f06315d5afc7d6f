-- What the static rules say of an expression, form by form.
use Rattle.std.proofs.Common.{◌≡◌, ℕ, ℤ, Bool, not, Some, None, List, [], ◌++◌, map, refl, ap, ◌∙◌}
use Rattle.std.specs.Prelude.{neg_ℤ, pos, unsigned_abs}
use Rattle.intervals.specs.Rules.{negation, absolute, smaller, greater}
use Rattle.intervals.specs.declared.interval.Interval.{Interval}
use Rattle.hll_tree.specs.declared.tree.Branch.{Branch, fold_out-Branch}
use Rattle.hll_tree.specs.declared.tree.Cmp.{Cmp}
use Rattle.hll_tree.specs.declared.tree.Domain.{Domain, Bounds, Bool as Truths, Named, fold_out-Domain}
use Rattle.hll_tree.specs.declared.tree.Domain.TheVariants.{outs-Bounds, outs-Bool, outs-Named}
use Rattle.hll_tree.specs.declared.tree.Expr.{Expr, fold_out-Expr}
use Rattle.hll_tree.specs.declared.tree.Form.{Form, Number, Truth, Path, Chain, Compare, Minus, Not, Choice, Group, Quant as Quantified, Pre, Least, Greatest, Size, Starting, Within, fold-Form, fold_out-Form}
use Rattle.hll_tree.specs.declared.tree.Form.TheVariants.{outs-Number, outs-Truth, outs-Path, outs-Chain, outs-Compare, outs-Minus, outs-Not, outs-Choice, outs-Group, outs-Quant, outs-Pre, outs-Least, outs-Greatest, outs-Size, outs-Starting, outs-Within}
use Rattle.hll_tree.specs.declared.tree.Link.{Link, fold_out-Link}
use Rattle.hll_tree.specs.declared.tree.Name.{Name}
use Rattle.hll_tree.specs.declared.tree.Quant.{Quant}
use Rattle.hll_tree.specs.declared.tree.Reach.{Reach, At, Field, fold-Reach, fold_out-Reach}
use Rattle.hll_tree.specs.declared.tree.Reach.TheVariants.{outs-At, outs-Field}
use Rattle.hll_meaning.specs.Kinds.{truth, whole}
use Rattle.hll_meaning.specs.Names.{under}
use Rattle.hll_meaning.specs.Values.{of_number, of_truth, number, is_true, compared, least, greatest}
pub use Rattle.hll_meaning.specs.Judging.{domain_said}
use Rattle.hll_meaning.specs.Judging.{Context, In, Judged, Ranged, Reached, by_index, by_name, Linked, for_constant, given_whole, wide_at, no_constant, wants_truth, wants_whole, bound_path, chain_of, comparison_faults, made_of, made_of_all, choice_of, all_in, group_at, quantified_at, pre_alone, pre_with, bounds_of, bound_domain, domain_judged, form_judged, reach_judged, judged}

-- what is said of a form, as an expression has it
judged_of_form : Form → ℕ → In Judged
judged_of_form = fold-Form (In Ranged) (ℕ → In Judged) Reached (In Judged × In Judged) (In Judged) Linked domain_judged form_judged reach_judged (λ b. (b.when, b.gives)) (λ e. e.form e.at) (λ link. record { op = link.op; at = link.at; with = link.with })

-- what is said of a step of a path
pub reach_said : Reach → Reached
reach_said = fold-Reach (In Ranged) (ℕ → In Judged) Reached (In Judged × In Judged) (In Judged) Linked domain_judged form_judged reach_judged (λ b. (b.when, b.gives)) (λ e. e.form e.at) (λ link. record { op = link.op; at = link.at; with = link.with })

-- an operator with its place and what is said of its operand
abbrev pub link_said : Link → Linked
link_said link = record { op = link.op; at = link.at; with = judged link.with }

-- what is said of a branch
abbrev pub branch_said : Branch → In Judged × In Judged
branch_said b = (judged b.when, judged b.gives)

judged-form : (e : Expr) (f : Form) → e.form ≡ f → (c : Context) → judged e c ≡ judged_of_form f e.at c
unfolding judged judged_of_form
judged-form e f is c = ap (λ (g : In Judged). g c) (fold_out-Expr _ _ _ _ _ _ _ _ _ _ _ _ e ∙ ap (λ (g : Form). judged_of_form g e.at) is)

pub judged-number : (e : Expr) (n : ℤ) → e.form ≡ Number n → (c : Context) →
    judged e c ≡ given_whole e.at (wide_at (record { lo = n; hi = n }) e.at) (whole (record { lo = n; hi = n })) (of_number n)
unfolding judged judged_of_form
judged-number e n is c = judged-form e _ is c ∙ ap (λ (g : ℕ → In Judged). g e.at c) (fold_out-Form _ _ _ _ _ _ _ _ _ _ _ _ (Number n)) ∙ rw (outs-Number n) refl

pub judged-truth : (e : Expr) (b : Bool) → e.form ≡ Truth b → (c : Context) →
    judged e c ≡ given_whole e.at [] truth (of_truth b)
unfolding judged judged_of_form
judged-truth e b is c = judged-form e _ is c ∙ ap (λ (g : ℕ → In Judged). g e.at c) (fold_out-Form _ _ _ _ _ _ _ _ _ _ _ _ (Truth b)) ∙ rw (outs-Truth b) refl

pub judged-path : (e : Expr) (n : Name) (reaches : List Reach) → e.form ≡ Path n reaches → (c : Context) →
    judged e c ≡ bound_path c e.at n.text (map reach_said reaches) (under n.text c.bound)
unfolding judged judged_of_form reach_said
judged-path e n reaches is c = judged-form e _ is c ∙ ap (λ (g : ℕ → In Judged). g e.at c) (fold_out-Form _ _ _ _ _ _ _ _ _ _ _ _ (Path n reaches)) ∙ rw (outs-Path n reaches) refl

pub judged-chain : (e : Expr) (first : Expr) (links : List Link) → e.form ≡ Chain first links → (c : Context) →
    judged e c ≡ chain_of c e.at (judged first c) (map link_said links)
unfolding judged judged_of_form
judged-chain e first links is c = judged-form e _ is c ∙ ap (λ (g : ℕ → In Judged). g e.at c) (fold_out-Form _ _ _ _ _ _ _ _ _ _ _ _ (Chain first links)) ∙ rw (outs-Chain first links)
    (λ i. chain_of c e.at (judged first c) (map (λ link. fold_out-Link _ _ _ _ _ _ domain_judged form_judged reach_judged (λ b. (b.when, b.gives)) (λ e. e.form e.at) (λ link. record { op = link.op; at = link.at; with = link.with }) link i) links))

pub judged-compare : (e : Expr) (o : Cmp) (a b : Expr) → e.form ≡ Compare o a b → (c : Context) →
    judged e c ≡ given_whole e.at ((judged a c).faults ++ ((judged b c).faults ++ comparison_faults o (judged a c) (judged b c))) truth (of_truth (compared o (number (judged a c).value) (number (judged b c).value)))
unfolding judged judged_of_form
judged-compare e o a b is c = judged-form e _ is c ∙ ap (λ (g : ℕ → In Judged). g e.at c) (fold_out-Form _ _ _ _ _ _ _ _ _ _ _ _ (Compare o a b)) ∙ rw (outs-Compare o a b) refl

pub judged-minus : (e : Expr) (inner : Expr) → e.form ≡ Minus inner → (c : Context) →
    judged e c ≡ made_of e.at (judged inner c) negation neg_ℤ
unfolding judged judged_of_form
judged-minus e inner is c = judged-form e _ is c ∙ ap (λ (g : ℕ → In Judged). g e.at c) (fold_out-Form _ _ _ _ _ _ _ _ _ _ _ _ (Minus inner)) ∙ rw (outs-Minus inner) refl

pub judged-not : (e : Expr) (inner : Expr) → e.form ≡ Not inner → (c : Context) →
    judged e c ≡ given_whole e.at ((judged inner c).faults ++ wants_truth (judged inner c)) truth (of_truth (not (is_true (judged inner c).value)))
unfolding judged judged_of_form
judged-not e inner is c = judged-form e _ is c ∙ ap (λ (g : ℕ → In Judged). g e.at c) (fold_out-Form _ _ _ _ _ _ _ _ _ _ _ _ (Not inner)) ∙ rw (outs-Not inner) refl

pub judged-choice : (e : Expr) (branches : List Branch) (otherwise : Expr) → e.form ≡ Choice branches otherwise → (c : Context) →
    judged e c ≡ choice_of e.at (all_in c (map branch_said branches)) (judged otherwise c)
unfolding judged judged_of_form
judged-choice e branches otherwise is c = judged-form e _ is c ∙ ap (λ (g : ℕ → In Judged). g e.at c) (fold_out-Form _ _ _ _ _ _ _ _ _ _ _ _ (Choice branches otherwise)) ∙ rw (outs-Choice branches otherwise)
    (λ i. choice_of e.at (all_in c (map (λ b. fold_out-Branch _ _ _ _ _ _ domain_judged form_judged reach_judged (λ b. (b.when, b.gives)) (λ e. e.form e.at) (λ link. record { op = link.op; at = link.at; with = link.with }) b i) branches)) (judged otherwise c))

pub judged-group : (e : Expr) (parts : List Expr) → e.form ≡ Group parts → (c : Context) →
    judged e c ≡ group_at c e.at (map (λ j. j c) (map judged parts))
unfolding judged judged_of_form
judged-group e parts is c = judged-form e _ is c ∙ ap (λ (g : ℕ → In Judged). g e.at c) (fold_out-Form _ _ _ _ _ _ _ _ _ _ _ _ (Group parts)) ∙ rw (outs-Group parts) refl

pub judged-quantified : (e : Expr) (q : Quant) (n : Name) (d : Domain) (body : Expr) → e.form ≡ Quantified q n d body → (c : Context) →
    judged e c ≡ quantified_at c e.at q n.text (domain_said d c) (judged body)
unfolding judged judged_of_form domain_said
judged-quantified e q n d body is c = judged-form e _ is c ∙ ap (λ (g : ℕ → In Judged). g e.at c) (fold_out-Form _ _ _ _ _ _ _ _ _ _ _ _ (Quantified q n d body)) ∙ rw (outs-Quant q n d body) refl

pub judged-pre_alone : (e : Expr) (body : Expr) → e.form ≡ Pre body None → (c : Context) →
    judged e c ≡ pre_alone c e.at (judged body c)
unfolding judged judged_of_form
judged-pre_alone e body is c = judged-form e _ is c ∙ ap (λ (g : ℕ → In Judged). g e.at c) (fold_out-Form _ _ _ _ _ _ _ _ _ _ _ _ (Pre body None)) ∙ rw (outs-Pre body None) refl

pub judged-pre_with : (e : Expr) (body first : Expr) → e.form ≡ Pre body (Some first) → (c : Context) →
    judged e c ≡ pre_with c e.at (judged body c) (judged first c)
unfolding judged judged_of_form
judged-pre_with e body first is c = judged-form e _ is c ∙ ap (λ (g : ℕ → In Judged). g e.at c) (fold_out-Form _ _ _ _ _ _ _ _ _ _ _ _ (Pre body (Some first))) ∙ rw (outs-Pre body (Some first)) refl

pub judged-least : (e : Expr) (es : List Expr) → e.form ≡ Least es → (c : Context) →
    judged e c ≡ made_of_all e.at (map (λ j. j c) (map judged es)) smaller (least (map (λ j. (j c).value) (map judged es)))
unfolding judged judged_of_form
judged-least e es is c = judged-form e _ is c ∙ ap (λ (g : ℕ → In Judged). g e.at c) (fold_out-Form _ _ _ _ _ _ _ _ _ _ _ _ (Least es)) ∙ rw (outs-Least es) refl

pub judged-greatest : (e : Expr) (es : List Expr) → e.form ≡ Greatest es → (c : Context) →
    judged e c ≡ made_of_all e.at (map (λ j. j c) (map judged es)) greater (greatest (map (λ j. (j c).value) (map judged es)))
unfolding judged judged_of_form
judged-greatest e es is c = judged-form e _ is c ∙ ap (λ (g : ℕ → In Judged). g e.at c) (fold_out-Form _ _ _ _ _ _ _ _ _ _ _ _ (Greatest es)) ∙ rw (outs-Greatest es) refl

pub judged-size : (e : Expr) (inner : Expr) → e.form ≡ Size inner → (c : Context) →
    judged e c ≡ made_of e.at (judged inner c) absolute (λ x. pos (unsigned_abs x))
unfolding judged judged_of_form
judged-size e inner is c = judged-form e _ is c ∙ ap (λ (g : ℕ → In Judged). g e.at c) (fold_out-Form _ _ _ _ _ _ _ _ _ _ _ _ (Size inner)) ∙ rw (outs-Size inner) refl

pub judged-starting : (e : Expr) → e.form ≡ Starting → (c : Context) →
    judged e c ≡ given_whole e.at (no_constant c e.at) truth []
unfolding judged judged_of_form
judged-starting e is c = judged-form e _ is c ∙ ap (λ (g : ℕ → In Judged). g e.at c) (fold_out-Form _ _ _ _ _ _ _ _ _ _ _ _ (Starting)) ∙ rw (outs-Starting) refl

pub judged-within : (e : Expr) (inner : Expr) (i : Interval) → e.form ≡ Within inner i → (c : Context) →
    judged e c ≡ given_whole e.at ((judged inner c).faults ++ (wants_whole (judged inner c) ++ no_constant c e.at)) truth []
unfolding judged judged_of_form
judged-within e inner i is c = judged-form e _ is c ∙ ap (λ (g : ℕ → In Judged). g e.at c) (fold_out-Form _ _ _ _ _ _ _ _ _ _ _ _ (Within inner i)) ∙ rw (outs-Within inner i) refl

pub domain_said-bounds : (a b : Expr) (c : Context) → domain_said (Bounds a b) c ≡ bounds_of (judged a (for_constant c)) (judged b (for_constant c))
unfolding judged domain_said
domain_said-bounds a b c = ap (λ (g : In Ranged). g c) (fold_out-Domain _ _ _ _ _ _ _ _ _ _ _ _ (Bounds a b)) ∙ rw (outs-Bounds a b) refl

pub domain_said-truths : (c : Context) → domain_said (Truths) c ≡ record { faults = []; kind = truth }
unfolding domain_said
domain_said-truths c = ap (λ (g : In Ranged). g c) (fold_out-Domain _ _ _ _ _ _ _ _ _ _ _ _ (Truths)) ∙ rw (outs-Bool) refl

pub domain_said-named : (n : Name) (c : Context) → domain_said (Named n) c ≡ bound_domain c n (under n.text c.bound)
unfolding domain_said
domain_said-named n c = ap (λ (g : In Ranged). g c) (fold_out-Domain _ _ _ _ _ _ _ _ _ _ _ _ (Named n)) ∙ rw (outs-Named n) refl

pub reach_said-at : (e : Expr) → reach_said (At e) ≡ by_index (judged e)
unfolding judged reach_said
reach_said-at e = fold_out-Reach _ _ _ _ _ _ _ _ _ _ _ _ (At e) ∙ rw (outs-At e) refl

pub reach_said-field : (n : Name) → reach_said (Field n) ≡ by_name n.text n.at
unfolding reach_said
reach_said-field n = fold_out-Reach _ _ _ _ _ _ _ _ _ _ _ _ (Field n) ∙ rw (outs-Field n) refl
