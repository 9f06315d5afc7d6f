-- What is printed of an expression, form by form.
use Rattle.std.proofs.Common.{◌≡◌, suc, ℤ, Bool, Option, Some, None, List, map, refl, ap, ◌∙◌}
use Rattle.std.specs.Prelude.{option_map}
use Rattle.intervals.specs.declared.interval.Interval.{Interval}
use Rattle.hll_tree.specs.declared.tree.Branch.{Branch, fold_out-Branch}
use Rattle.hll_tree.specs.declared.tree.Cmp.{Cmp}
use Rattle.hll_tree.specs.declared.tree.Domain.{Domain, Domain-F, Bounds, Bool as DomainBool, Named, fold_out-Domain}
use Rattle.hll_tree.specs.declared.tree.Domain.TheVariants.{outs-Bounds, outs-Bool, outs-Named}
use Rattle.hll_tree.specs.declared.tree.Expr.{Expr, fold_out-Expr}
use Rattle.hll_tree.specs.declared.tree.Form.{Form, Form-F, Number, Truth, Path, Chain, Compare, Minus, Not, Choice, Group, Quant as Quantified, Pre, Least, Greatest, Size, Starting, Within, fold-Form, fold_out-Form}
use Rattle.hll_tree.specs.declared.tree.Form.TheVariants.{outs-Number, outs-Truth, outs-Path, outs-Chain, outs-Compare, outs-Minus, outs-Not, outs-Choice, outs-Group, outs-Quant, outs-Pre, outs-Least, outs-Greatest, outs-Size, outs-Starting, outs-Within}
use Rattle.hll_tree.specs.declared.tree.Link.{Link, fold_out-Link}
use Rattle.hll_tree.specs.declared.tree.Name.{Name}
use Rattle.hll_tree.specs.declared.tree.Op.{Op}
use Rattle.hll_tree.specs.declared.tree.Quant.{Quant}
use Rattle.hll_tree.specs.declared.tree.Reach.{Reach, Reach-F, At, Field, fold_out-Reach}
use Rattle.hll_tree.specs.declared.tree.Reach.TheVariants.{outs-At, outs-Field}
use Rattle.hll_tree.specs.Spells.{precedence_of}
use Rattle.hll_tree.specs.PrintedParts.{printed_domain, printed_reach, printed_branch, printed_link}
use Rattle.hll_tree.specs.Printing.{Text, Printed, ReachText, plainly, at_level, chain_level, domain_text, form_text, reach_text, printed}

-- the folds over the other types of a tree, as that of an expression has them
printed_form : Form → Printed
printed_form = fold-Form Text Printed ReachText (Text × Text) Printed (Op × Text) domain_text form_text reach_text (λ b. (plainly b.when, plainly b.gives)) (λ e. e.form) (λ link. (link.op, at_level (suc (chain_level (precedence_of link.op))) link.with))

printed-form : (e : Expr) (f : Form) → e.form ≡ f → printed e ≡ printed_form f
unfolding printed printed_form
printed-form e f is = fold_out-Expr _ _ _ _ _ _ _ _ _ _ _ _ e ∙ ap printed_form is

pub printed-number : (e : Expr) (n : ℤ) → e.form ≡ Number n → printed e ≡ form_text (Form-F.Number n)
unfolding printed printed_form printed_domain printed_reach
printed-number e n is = printed-form e _ is ∙ fold_out-Form _ _ _ _ _ _ _ _ _ _ _ _ (Number n) ∙ rw (outs-Number n) refl

pub printed-truth : (e : Expr) (b : Bool) → e.form ≡ Truth b → printed e ≡ form_text (Form-F.Truth b)
unfolding printed printed_form printed_domain printed_reach
printed-truth e b is = printed-form e _ is ∙ fold_out-Form _ _ _ _ _ _ _ _ _ _ _ _ (Truth b) ∙ rw (outs-Truth b) refl

pub printed-path : (e : Expr) (n : Name) (rs : List Reach) → e.form ≡ Path n rs → printed e ≡ form_text (Form-F.Path n (map printed_reach rs))
unfolding printed printed_form printed_domain printed_reach
printed-path e n rs is = printed-form e _ is ∙ fold_out-Form _ _ _ _ _ _ _ _ _ _ _ _ (Path n rs) ∙ rw (outs-Path n rs) refl

pub printed-chain : (e : Expr) (first : Expr) (links : List Link) → e.form ≡ Chain first links → printed e ≡ form_text (Form-F.Chain (printed first) (map printed_link links))
unfolding printed printed_form printed_domain printed_reach
printed-chain e first links is = printed-form e _ is ∙ fold_out-Form _ _ _ _ _ _ _ _ _ _ _ _ (Chain first links) ∙ rw (outs-Chain first links) (λ i. form_text (Form-F.Chain (printed first) (map (λ link. fold_out-Link _ _ _ _ _ _ domain_text form_text reach_text (λ b. (plainly b.when, plainly b.gives)) (λ e. e.form) (λ link. (link.op, at_level (suc (chain_level (precedence_of link.op))) link.with)) link i) links)))

pub printed-compare : (e : Expr) (c : Cmp) (a b : Expr) → e.form ≡ Compare c a b → printed e ≡ form_text (Form-F.Compare c (printed a) (printed b))
unfolding printed printed_form printed_domain printed_reach
printed-compare e c a b is = printed-form e _ is ∙ fold_out-Form _ _ _ _ _ _ _ _ _ _ _ _ (Compare c a b) ∙ rw (outs-Compare c a b) refl

pub printed-minus : (e : Expr) (x : Expr) → e.form ≡ Minus x → printed e ≡ form_text (Form-F.Minus (printed x))
unfolding printed printed_form printed_domain printed_reach
printed-minus e x is = printed-form e _ is ∙ fold_out-Form _ _ _ _ _ _ _ _ _ _ _ _ (Minus x) ∙ rw (outs-Minus x) refl

pub printed-not : (e : Expr) (x : Expr) → e.form ≡ Not x → printed e ≡ form_text (Form-F.Not (printed x))
unfolding printed printed_form printed_domain printed_reach
printed-not e x is = printed-form e _ is ∙ fold_out-Form _ _ _ _ _ _ _ _ _ _ _ _ (Not x) ∙ rw (outs-Not x) refl

pub printed-choice : (e : Expr) (branches : List Branch) (x : Expr) → e.form ≡ Choice branches x → printed e ≡ form_text (Form-F.Choice (map printed_branch branches) (printed x))
unfolding printed printed_form printed_domain printed_reach
printed-choice e branches x is = printed-form e _ is ∙ fold_out-Form _ _ _ _ _ _ _ _ _ _ _ _ (Choice branches x) ∙ rw (outs-Choice branches x) (λ i. form_text (Form-F.Choice (map (λ b. fold_out-Branch _ _ _ _ _ _ domain_text form_text reach_text (λ b. (plainly b.when, plainly b.gives)) (λ e. e.form) (λ link. (link.op, at_level (suc (chain_level (precedence_of link.op))) link.with)) b i) branches) (printed x)))

pub printed-group : (e : Expr) (xs : List Expr) → e.form ≡ Group xs → printed e ≡ form_text (Form-F.Group (map printed xs))
unfolding printed printed_form printed_domain printed_reach
printed-group e xs is = printed-form e _ is ∙ fold_out-Form _ _ _ _ _ _ _ _ _ _ _ _ (Group xs) ∙ rw (outs-Group xs) refl

pub printed-quant : (e : Expr) (q : Quant) (n : Name) (d : Domain) (x : Expr) → e.form ≡ Quantified q n d x → printed e ≡ form_text (Form-F.Quant q n (printed_domain d) (printed x))
unfolding printed printed_form printed_domain printed_reach
printed-quant e q n d x is = printed-form e _ is ∙ fold_out-Form _ _ _ _ _ _ _ _ _ _ _ _ (Quantified q n d x) ∙ rw (outs-Quant q n d x) refl

pub printed-pre : (e : Expr) (x : Expr) (first : Option Expr) → e.form ≡ Pre x first → printed e ≡ form_text (Form-F.Pre (printed x) (option_map printed first))
unfolding printed printed_form
printed-pre e x None is = printed-form e _ is ∙ fold_out-Form _ _ _ _ _ _ _ _ _ _ _ _ (Pre x None) ∙ rw (outs-Pre x None) refl
printed-pre e x (Some first) is = printed-form e _ is ∙ fold_out-Form _ _ _ _ _ _ _ _ _ _ _ _ (Pre x (Some first)) ∙ rw (outs-Pre x (Some first)) refl

pub printed-least : (e : Expr) (xs : List Expr) → e.form ≡ Least xs → printed e ≡ form_text (Form-F.Least (map printed xs))
unfolding printed printed_form printed_domain printed_reach
printed-least e xs is = printed-form e _ is ∙ fold_out-Form _ _ _ _ _ _ _ _ _ _ _ _ (Least xs) ∙ rw (outs-Least xs) refl

pub printed-greatest : (e : Expr) (xs : List Expr) → e.form ≡ Greatest xs → printed e ≡ form_text (Form-F.Greatest (map printed xs))
unfolding printed printed_form printed_domain printed_reach
printed-greatest e xs is = printed-form e _ is ∙ fold_out-Form _ _ _ _ _ _ _ _ _ _ _ _ (Greatest xs) ∙ rw (outs-Greatest xs) refl

pub printed-size : (e : Expr) (x : Expr) → e.form ≡ Size x → printed e ≡ form_text (Form-F.Size (printed x))
unfolding printed printed_form printed_domain printed_reach
printed-size e x is = printed-form e _ is ∙ fold_out-Form _ _ _ _ _ _ _ _ _ _ _ _ (Size x) ∙ rw (outs-Size x) refl

pub printed-within : (e : Expr) (x : Expr) (i : Interval) → e.form ≡ Within x i → printed e ≡ form_text (Form-F.Within (printed x) i)
unfolding printed printed_form printed_domain printed_reach
printed-within e x i is = printed-form e _ is ∙ fold_out-Form _ _ _ _ _ _ _ _ _ _ _ _ (Within x i) ∙ rw (outs-Within x i) refl

pub printed-starting : (e : Expr) → e.form ≡ Starting → printed e ≡ form_text Form-F.Starting
unfolding printed_form
printed-starting e is = printed-form e _ is ∙ fold_out-Form _ _ _ _ _ _ _ _ _ _ _ _ Starting ∙ rw outs-Starting refl

pub printed-bounds : (d : Domain) (a b : Expr) → d ≡ Bounds a b → printed_domain d ≡ domain_text (Domain-F.Bounds (printed a) (printed b))
unfolding printed printed_domain
printed-bounds d a b is = ap printed_domain is ∙ fold_out-Domain _ _ _ _ _ _ _ _ _ _ _ _ (Bounds a b) ∙ rw (outs-Bounds a b) refl

pub printed-bool : (d : Domain) → d ≡ DomainBool → printed_domain d ≡ domain_text Domain-F.Bool
unfolding printed_domain
printed-bool d is = ap printed_domain is ∙ fold_out-Domain _ _ _ _ _ _ _ _ _ _ _ _ DomainBool ∙ rw outs-Bool refl

pub printed-named : (d : Domain) (n : Name) → d ≡ Named n → printed_domain d ≡ domain_text (Domain-F.Named n)
unfolding printed_domain
printed-named d n is = ap printed_domain is ∙ fold_out-Domain _ _ _ _ _ _ _ _ _ _ _ _ (Named n) ∙ rw (outs-Named n) refl

pub printed-at : (r : Reach) (e : Expr) → r ≡ At e → printed_reach r ≡ reach_text (Reach-F.At (printed e))
unfolding printed printed_reach
printed-at r e is = ap printed_reach is ∙ fold_out-Reach _ _ _ _ _ _ _ _ _ _ _ _ (At e) ∙ rw (outs-At e) refl

pub printed-field : (r : Reach) (n : Name) → r ≡ Field n → printed_reach r ≡ reach_text (Reach-F.Field n)
unfolding printed_reach
printed-field r n is = ap printed_reach is ∙ fold_out-Reach _ _ _ _ _ _ _ _ _ _ _ _ (Field n) ∙ rw (outs-Field n) refl
