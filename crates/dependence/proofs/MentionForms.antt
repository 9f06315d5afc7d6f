-- What is said of an expression, form by form.
use Rattle.std.proofs.Common.{◌≡◌, ℤ, Bool, Some, None, List, map, refl, ap, ◌∙◌}
use Rattle.intervals.specs.declared.interval.Interval.{Interval}
use Rattle.hll_tree.specs.declared.tree.Branch.{Branch, fold_out-Branch}
use Rattle.hll_tree.specs.declared.tree.Cmp.{Cmp}
use Rattle.hll_tree.specs.declared.tree.Domain.{Domain, Domain-F, Bounds, Bool as Truths, Named, fold-Domain, fold_out-Domain}
use Rattle.hll_tree.specs.declared.tree.Domain.TheVariants.{outs-Bounds, outs-Bool, outs-Named}
use Rattle.hll_tree.specs.declared.tree.Expr.{Expr, fold_out-Expr}
use Rattle.hll_tree.specs.declared.tree.Form.{Form, Form-F, Number, Truth, Path, Chain, Compare, Minus, Not, Choice, Group, Quant as Quantified, Pre, Least, Greatest, Size, Starting, Within, fold-Form, fold_out-Form}
use Rattle.hll_tree.specs.declared.tree.Form.TheVariants.{outs-Number, outs-Truth, outs-Path, outs-Chain, outs-Compare, outs-Minus, outs-Not, outs-Choice, outs-Group, outs-Quant, outs-Pre, outs-Least, outs-Greatest, outs-Size, outs-Starting, outs-Within}
use Rattle.hll_tree.specs.declared.tree.Link.{Link, fold_out-Link}
use Rattle.hll_tree.specs.declared.tree.Name.{Name}
use Rattle.hll_tree.specs.declared.tree.Quant.{Quant}
use Rattle.hll_tree.specs.declared.tree.Reach.{Reach, Reach-F, At, Field, fold-Reach, fold_out-Reach}
use Rattle.hll_tree.specs.declared.tree.Reach.TheVariants.{outs-At, outs-Field}
use Rattle.dependence.specs.Mentions.{Mentioning, MentioningStep, MentioningLink, MentioningDomain, domain_mentioning, reach_mentioning, form_mentioning, mentioning}

-- what is said of a form, of a domain and of a step of a path
form_said : Form → Mentioning
form_said = fold-Form MentioningDomain Mentioning MentioningStep (Mentioning × Mentioning) Mentioning MentioningLink domain_mentioning form_mentioning reach_mentioning (λ b. (b.when, b.gives)) (λ e. e.form) (λ link. record { op = link.op; with = link.with })

pub domain_said : Domain → MentioningDomain
domain_said = fold-Domain MentioningDomain Mentioning MentioningStep (Mentioning × Mentioning) Mentioning MentioningLink domain_mentioning form_mentioning reach_mentioning (λ b. (b.when, b.gives)) (λ e. e.form) (λ link. record { op = link.op; with = link.with })

pub reach_said : Reach → MentioningStep
reach_said = fold-Reach MentioningDomain Mentioning MentioningStep (Mentioning × Mentioning) Mentioning MentioningLink domain_mentioning form_mentioning reach_mentioning (λ b. (b.when, b.gives)) (λ e. e.form) (λ link. record { op = link.op; with = link.with })

-- a branch and a link
abbrev pub branch_said : Branch → Mentioning × Mentioning
branch_said b = (mentioning b.when, mentioning b.gives)

abbrev pub link_said : Link → MentioningLink
link_said link = record { op = link.op; with = mentioning link.with }

said-form : (e : Expr) (f : Form) → e.form ≡ f → mentioning e ≡ form_said f
unfolding mentioning form_said
said-form e f is = fold_out-Expr _ _ _ _ _ _ _ _ _ _ _ _ e ∙ ap form_said is

pub said-number : (e : Expr) (n : ℤ) → e.form ≡ Number n → mentioning e ≡ form_mentioning (Form-F.Number n)
unfolding mentioning form_said reach_said domain_said
said-number e n is = said-form e _ is ∙ fold_out-Form _ _ _ _ _ _ _ _ _ _ _ _ (Number n) ∙ rw (outs-Number n) refl

pub said-truth : (e : Expr) (b : Bool) → e.form ≡ Truth b → mentioning e ≡ form_mentioning (Form-F.Truth b)
unfolding mentioning form_said reach_said domain_said
said-truth e b is = said-form e _ is ∙ fold_out-Form _ _ _ _ _ _ _ _ _ _ _ _ (Truth b) ∙ rw (outs-Truth b) refl

pub said-path : (e : Expr) (n : Name) (reaches : List Reach) → e.form ≡ Path n reaches → mentioning e ≡ form_mentioning (Form-F.Path n (map reach_said reaches))
unfolding mentioning form_said reach_said domain_said
said-path e n reaches is = said-form e _ is ∙ fold_out-Form _ _ _ _ _ _ _ _ _ _ _ _ (Path n reaches) ∙ rw (outs-Path n reaches) refl

pub said-chain : (e : Expr) (first : Expr) (links : List Link) → e.form ≡ Chain first links → mentioning e ≡ form_mentioning (Form-F.Chain (mentioning first) (map link_said links))
unfolding mentioning form_said reach_said domain_said
said-chain e first links is = said-form e _ is ∙ fold_out-Form _ _ _ _ _ _ _ _ _ _ _ _ (Chain first links) ∙ rw (outs-Chain first links) (λ i. form_mentioning (Form-F.Chain (mentioning first) (map (λ link. fold_out-Link _ _ _ _ _ _ domain_mentioning form_mentioning reach_mentioning (λ b. (b.when, b.gives)) (λ e. e.form) (λ link. record { op = link.op; with = link.with }) link i) links)))

pub said-compare : (e : Expr) (o : Cmp) (a b : Expr) → e.form ≡ Compare o a b → mentioning e ≡ form_mentioning (Form-F.Compare o (mentioning a) (mentioning b))
unfolding mentioning form_said reach_said domain_said
said-compare e o a b is = said-form e _ is ∙ fold_out-Form _ _ _ _ _ _ _ _ _ _ _ _ (Compare o a b) ∙ rw (outs-Compare o a b) refl

pub said-minus : (e : Expr) (inner : Expr) → e.form ≡ Minus inner → mentioning e ≡ form_mentioning (Form-F.Minus (mentioning inner))
unfolding mentioning form_said reach_said domain_said
said-minus e inner is = said-form e _ is ∙ fold_out-Form _ _ _ _ _ _ _ _ _ _ _ _ (Minus inner) ∙ rw (outs-Minus inner) refl

pub said-not : (e : Expr) (inner : Expr) → e.form ≡ Not inner → mentioning e ≡ form_mentioning (Form-F.Not (mentioning inner))
unfolding mentioning form_said reach_said domain_said
said-not e inner is = said-form e _ is ∙ fold_out-Form _ _ _ _ _ _ _ _ _ _ _ _ (Not inner) ∙ rw (outs-Not inner) refl

pub said-choice : (e : Expr) (branches : List Branch) (otherwise : Expr) → e.form ≡ Choice branches otherwise → mentioning e ≡ form_mentioning (Form-F.Choice (map branch_said branches) (mentioning otherwise))
unfolding mentioning form_said reach_said domain_said
said-choice e branches otherwise is = said-form e _ is ∙ fold_out-Form _ _ _ _ _ _ _ _ _ _ _ _ (Choice branches otherwise) ∙ rw (outs-Choice branches otherwise) (λ i. form_mentioning (Form-F.Choice (map (λ b. fold_out-Branch _ _ _ _ _ _ domain_mentioning form_mentioning reach_mentioning (λ b. (b.when, b.gives)) (λ e. e.form) (λ link. record { op = link.op; with = link.with }) b i) branches) (mentioning otherwise)))

pub said-group : (e : Expr) (parts : List Expr) → e.form ≡ Group parts → mentioning e ≡ form_mentioning (Form-F.Group (map mentioning parts))
unfolding mentioning form_said reach_said domain_said
said-group e parts is = said-form e _ is ∙ fold_out-Form _ _ _ _ _ _ _ _ _ _ _ _ (Group parts) ∙ rw (outs-Group parts) refl

pub said-quantified : (e : Expr) (q : Quant) (n : Name) (d : Domain) (body : Expr) → e.form ≡ Quantified q n d body → mentioning e ≡ form_mentioning (Form-F.Quant q n (domain_said d) (mentioning body))
unfolding mentioning form_said reach_said domain_said
said-quantified e q n d body is = said-form e _ is ∙ fold_out-Form _ _ _ _ _ _ _ _ _ _ _ _ (Quantified q n d body) ∙ rw (outs-Quant q n d body) refl

pub said-pre_alone : (e : Expr) (body : Expr) → e.form ≡ Pre body None → mentioning e ≡ form_mentioning (Form-F.Pre (mentioning body) None)
unfolding mentioning form_said reach_said domain_said
said-pre_alone e body is = said-form e _ is ∙ fold_out-Form _ _ _ _ _ _ _ _ _ _ _ _ (Pre body None) ∙ rw (outs-Pre body None) refl

pub said-pre_with : (e : Expr) (body first : Expr) → e.form ≡ Pre body (Some first) → mentioning e ≡ form_mentioning (Form-F.Pre (mentioning body) (Some (mentioning first)))
unfolding mentioning form_said reach_said domain_said
said-pre_with e body first is = said-form e _ is ∙ fold_out-Form _ _ _ _ _ _ _ _ _ _ _ _ (Pre body (Some first)) ∙ rw (outs-Pre body (Some first)) refl

pub said-least : (e : Expr) (es : List Expr) → e.form ≡ Least es → mentioning e ≡ form_mentioning (Form-F.Least (map mentioning es))
unfolding mentioning form_said reach_said domain_said
said-least e es is = said-form e _ is ∙ fold_out-Form _ _ _ _ _ _ _ _ _ _ _ _ (Least es) ∙ rw (outs-Least es) refl

pub said-greatest : (e : Expr) (es : List Expr) → e.form ≡ Greatest es → mentioning e ≡ form_mentioning (Form-F.Greatest (map mentioning es))
unfolding mentioning form_said reach_said domain_said
said-greatest e es is = said-form e _ is ∙ fold_out-Form _ _ _ _ _ _ _ _ _ _ _ _ (Greatest es) ∙ rw (outs-Greatest es) refl

pub said-size : (e : Expr) (inner : Expr) → e.form ≡ Size inner → mentioning e ≡ form_mentioning (Form-F.Size (mentioning inner))
unfolding mentioning form_said reach_said domain_said
said-size e inner is = said-form e _ is ∙ fold_out-Form _ _ _ _ _ _ _ _ _ _ _ _ (Size inner) ∙ rw (outs-Size inner) refl

pub said-starting : (e : Expr) → e.form ≡ Starting → mentioning e ≡ form_mentioning Form-F.Starting
unfolding mentioning form_said reach_said domain_said
said-starting e is = said-form e _ is ∙ fold_out-Form _ _ _ _ _ _ _ _ _ _ _ _ Starting ∙ rw outs-Starting refl

pub said-within : (e : Expr) (inner : Expr) (i : Interval) → e.form ≡ Within inner i → mentioning e ≡ form_mentioning (Form-F.Within (mentioning inner) i)
unfolding mentioning form_said reach_said domain_said
said-within e inner i is = said-form e _ is ∙ fold_out-Form _ _ _ _ _ _ _ _ _ _ _ _ (Within inner i) ∙ rw (outs-Within inner i) refl

pub said-bounds : (a b : Expr) → domain_said (Bounds a b) ≡ domain_mentioning (Domain-F.Bounds (mentioning a) (mentioning b))
unfolding mentioning domain_said
said-bounds a b = fold_out-Domain _ _ _ _ _ _ _ _ _ _ _ _ (Bounds a b) ∙ rw (outs-Bounds a b) refl

pub said-truths : domain_said Truths ≡ domain_mentioning Domain-F.Bool
unfolding domain_said
said-truths = fold_out-Domain _ _ _ _ _ _ _ _ _ _ _ _ Truths ∙ rw outs-Bool refl

pub said-named : (n : Name) → domain_said (Named n) ≡ domain_mentioning (Domain-F.Named n)
unfolding domain_said
said-named n = fold_out-Domain _ _ _ _ _ _ _ _ _ _ _ _ (Named n) ∙ rw (outs-Named n) refl

pub said-at : (e : Expr) → reach_said (At e) ≡ reach_mentioning (Reach-F.At (mentioning e))
unfolding mentioning reach_said
said-at e = fold_out-Reach _ _ _ _ _ _ _ _ _ _ _ _ (At e) ∙ rw (outs-At e) refl

pub said-field : (n : Name) → reach_said (Field n) ≡ reach_mentioning (Reach-F.Field n)
unfolding reach_said
said-field n = fold_out-Reach _ _ _ _ _ _ _ _ _ _ _ _ (Field n) ∙ rw (outs-Field n) refl
