-- Trees without places, form by form.
use Rattle.std.proofs.Common.{◌≡◌, ℤ, Bool, Option, Some, None, List, map, refl, ap, ◌∙◌}
use Rattle.std.specs.Prelude.{option_map}
use Rattle.intervals.specs.declared.interval.Interval.{Interval}
use Rattle.hll_tree.specs.declared.tree.Branch.{Branch, roll-Branch, fold_out-Branch}
use Rattle.hll_tree.specs.declared.tree.Cmp.{Cmp}
use Rattle.hll_tree.specs.declared.tree.Domain.{Domain, Bounds, Bool as DomainBool, Named, fold-Domain, fold_out-Domain}
use Rattle.hll_tree.specs.declared.tree.Domain.TheVariants.{outs-Bounds, outs-Bool, outs-Named}
use Rattle.hll_tree.specs.declared.tree.Expr.{Expr, roll-Expr, fold_out-Expr}
use Rattle.hll_tree.specs.declared.tree.Form.{Form, Number, Truth, Path, Chain, Compare, Minus, Not, Choice, Group, Quant as Quantified, Pre, Least, Greatest, Size, Starting, Within, fold-Form, fold_out-Form}
use Rattle.hll_tree.specs.declared.tree.Form.TheVariants.{outs-Number, outs-Truth, outs-Path, outs-Chain, outs-Compare, outs-Minus, outs-Not, outs-Choice, outs-Group, outs-Quant, outs-Pre, outs-Least, outs-Greatest, outs-Size, outs-Starting, outs-Within}
use Rattle.hll_tree.specs.declared.tree.Link.{Link, roll-Link, fold_out-Link}
use Rattle.hll_tree.specs.declared.tree.Name.{Name}
use Rattle.hll_tree.specs.declared.tree.Quant.{Quant}
use Rattle.hll_tree.specs.declared.tree.Reach.{Reach, At, Field, fold-Reach, fold_out-Reach}
use Rattle.hll_tree.specs.declared.tree.Reach.TheVariants.{outs-At, outs-Field}
use Rattle.hll_tree.specs.WithoutPlaces.{name_without, domain_without_step, form_without_step, reach_without_step, expression_without}

-- the folds over the other types of a tree, as that of an expression has them
without_form : Form → Form
without_form = fold-Form Domain Form Reach Branch Expr Link domain_without_step form_without_step reach_without_step (λ b. roll-Branch (record { when = b.when; gives = b.gives })) (λ e. roll-Expr (record { at = 0; form = e.form })) (λ link. roll-Link (record { op = link.op; at = 0; with = link.with }))

unfoldable pub reach_without : Reach → Reach
reach_without = fold-Reach Domain Form Reach Branch Expr Link domain_without_step form_without_step reach_without_step (λ b. roll-Branch (record { when = b.when; gives = b.gives })) (λ e. roll-Expr (record { at = 0; form = e.form })) (λ link. roll-Link (record { op = link.op; at = 0; with = link.with }))

unfoldable pub domain_without : Domain → Domain
domain_without = fold-Domain Domain Form Reach Branch Expr Link domain_without_step form_without_step reach_without_step (λ b. roll-Branch (record { when = b.when; gives = b.gives })) (λ e. roll-Expr (record { at = 0; form = e.form })) (λ link. roll-Link (record { op = link.op; at = 0; with = link.with }))

abbrev pub link_without : Link → Link
link_without k = roll-Link (record { op = k.op; at = 0; with = expression_without k.with })

abbrev pub branch_without : Branch → Branch
branch_without b = roll-Branch (record { when = expression_without b.when; gives = expression_without b.gives })

-- an expression at place 0
abbrev pub at_zero : Form → Expr
at_zero f = roll-Expr (record { at = 0; form = f })

without-form : (e : Expr) (f : Form) → e.form ≡ f → expression_without e ≡ at_zero (without_form f)
unfolding expression_without without_form
without-form e f is = fold_out-Expr _ _ _ _ _ _ _ _ _ _ _ _ e ∙ ap (λ (g : Form). at_zero (without_form g)) is

pub without-number : (e : Expr) (n : ℤ) → e.form ≡ Number n → expression_without e ≡ at_zero (Number n)
unfolding expression_without without_form domain_without reach_without
without-number e n is = without-form e _ is ∙ ap at_zero (fold_out-Form _ _ _ _ _ _ _ _ _ _ _ _ (Number n) ∙ rw (outs-Number n) refl)

pub without-truth : (e : Expr) (b : Bool) → e.form ≡ Truth b → expression_without e ≡ at_zero (Truth b)
unfolding expression_without without_form domain_without reach_without
without-truth e b is = without-form e _ is ∙ ap at_zero (fold_out-Form _ _ _ _ _ _ _ _ _ _ _ _ (Truth b) ∙ rw (outs-Truth b) refl)

pub without-path : (e : Expr) (n : Name) (rs : List Reach) → e.form ≡ Path n rs → expression_without e ≡ at_zero (Path (name_without n) (map reach_without rs))
unfolding expression_without without_form domain_without reach_without
without-path e n rs is = without-form e _ is ∙ ap at_zero (fold_out-Form _ _ _ _ _ _ _ _ _ _ _ _ (Path n rs) ∙ rw (outs-Path n rs) refl)

pub without-chain : (e : Expr) (first : Expr) (links : List Link) → e.form ≡ Chain first links → expression_without e ≡ at_zero (Chain (expression_without first) (map link_without links))
unfolding expression_without without_form domain_without reach_without
without-chain e first links is = without-form e _ is ∙ ap at_zero (fold_out-Form _ _ _ _ _ _ _ _ _ _ _ _ (Chain first links) ∙ rw (outs-Chain first links) (λ i. Chain (expression_without first) (map (λ link. fold_out-Link _ _ _ _ _ _ domain_without_step form_without_step reach_without_step (λ b. roll-Branch (record { when = b.when; gives = b.gives })) (λ e. roll-Expr (record { at = 0; form = e.form })) (λ link. roll-Link (record { op = link.op; at = 0; with = link.with })) link i) links)))

pub without-compare : (e : Expr) (c : Cmp) (a : Expr) (b : Expr) → e.form ≡ Compare c a b → expression_without e ≡ at_zero (Compare c (expression_without a) (expression_without b))
unfolding expression_without without_form domain_without reach_without
without-compare e c a b is = without-form e _ is ∙ ap at_zero (fold_out-Form _ _ _ _ _ _ _ _ _ _ _ _ (Compare c a b) ∙ rw (outs-Compare c a b) refl)

pub without-minus : (e : Expr) (x : Expr) → e.form ≡ Minus x → expression_without e ≡ at_zero (Minus (expression_without x))
unfolding expression_without without_form domain_without reach_without
without-minus e x is = without-form e _ is ∙ ap at_zero (fold_out-Form _ _ _ _ _ _ _ _ _ _ _ _ (Minus x) ∙ rw (outs-Minus x) refl)

pub without-not : (e : Expr) (x : Expr) → e.form ≡ Not x → expression_without e ≡ at_zero (Not (expression_without x))
unfolding expression_without without_form domain_without reach_without
without-not e x is = without-form e _ is ∙ ap at_zero (fold_out-Form _ _ _ _ _ _ _ _ _ _ _ _ (Not x) ∙ rw (outs-Not x) refl)

pub without-choice : (e : Expr) (branches : List Branch) (x : Expr) → e.form ≡ Choice branches x → expression_without e ≡ at_zero (Choice (map branch_without branches) (expression_without x))
unfolding expression_without without_form domain_without reach_without
without-choice e branches x is = without-form e _ is ∙ ap at_zero (fold_out-Form _ _ _ _ _ _ _ _ _ _ _ _ (Choice branches x) ∙ rw (outs-Choice branches x) (λ i. Choice (map (λ b. fold_out-Branch _ _ _ _ _ _ domain_without_step form_without_step reach_without_step (λ b. roll-Branch (record { when = b.when; gives = b.gives })) (λ e. roll-Expr (record { at = 0; form = e.form })) (λ link. roll-Link (record { op = link.op; at = 0; with = link.with })) b i) branches) (expression_without x)))

pub without-group : (e : Expr) (xs : List Expr) → e.form ≡ Group xs → expression_without e ≡ at_zero (Group (map expression_without xs))
unfolding expression_without without_form domain_without reach_without
without-group e xs is = without-form e _ is ∙ ap at_zero (fold_out-Form _ _ _ _ _ _ _ _ _ _ _ _ (Group xs) ∙ rw (outs-Group xs) refl)

pub without-quant : (e : Expr) (q : Quant) (n : Name) (d : Domain) (x : Expr) → e.form ≡ Quantified q n d x → expression_without e ≡ at_zero (Quantified q (name_without n) (domain_without d) (expression_without x))
unfolding expression_without without_form domain_without reach_without
without-quant e q n d x is = without-form e _ is ∙ ap at_zero (fold_out-Form _ _ _ _ _ _ _ _ _ _ _ _ (Quantified q n d x) ∙ rw (outs-Quant q n d x) refl)

pub without-pre : (e : Expr) (x : Expr) (first : Option Expr) → e.form ≡ Pre x first → expression_without e ≡ at_zero (Pre (expression_without x) (option_map expression_without first))
unfolding expression_without without_form domain_without reach_without
without-pre e x None is = without-form e _ is ∙ ap at_zero (fold_out-Form _ _ _ _ _ _ _ _ _ _ _ _ (Pre x None) ∙ rw (outs-Pre x None) refl)
without-pre e x (Some first) is = without-form e _ is ∙ ap at_zero (fold_out-Form _ _ _ _ _ _ _ _ _ _ _ _ (Pre x (Some first)) ∙ rw (outs-Pre x (Some first)) refl)

pub without-least : (e : Expr) (xs : List Expr) → e.form ≡ Least xs → expression_without e ≡ at_zero (Least (map expression_without xs))
unfolding expression_without without_form domain_without reach_without
without-least e xs is = without-form e _ is ∙ ap at_zero (fold_out-Form _ _ _ _ _ _ _ _ _ _ _ _ (Least xs) ∙ rw (outs-Least xs) refl)

pub without-greatest : (e : Expr) (xs : List Expr) → e.form ≡ Greatest xs → expression_without e ≡ at_zero (Greatest (map expression_without xs))
unfolding expression_without without_form domain_without reach_without
without-greatest e xs is = without-form e _ is ∙ ap at_zero (fold_out-Form _ _ _ _ _ _ _ _ _ _ _ _ (Greatest xs) ∙ rw (outs-Greatest xs) refl)

pub without-size : (e : Expr) (x : Expr) → e.form ≡ Size x → expression_without e ≡ at_zero (Size (expression_without x))
unfolding expression_without without_form domain_without reach_without
without-size e x is = without-form e _ is ∙ ap at_zero (fold_out-Form _ _ _ _ _ _ _ _ _ _ _ _ (Size x) ∙ rw (outs-Size x) refl)

pub without-starting : (e : Expr) → e.form ≡ Starting → expression_without e ≡ at_zero Starting
unfolding expression_without without_form domain_without reach_without
without-starting e is = without-form e _ is ∙ ap at_zero (fold_out-Form _ _ _ _ _ _ _ _ _ _ _ _ Starting ∙ rw outs-Starting refl)

pub without-within : (e : Expr) (x : Expr) (i : Interval) → e.form ≡ Within x i → expression_without e ≡ at_zero (Within (expression_without x) i)
unfolding expression_without without_form domain_without reach_without
without-within e x i is = without-form e _ is ∙ ap at_zero (fold_out-Form _ _ _ _ _ _ _ _ _ _ _ _ (Within x i) ∙ rw (outs-Within x i) refl)

pub without-at : (e : Expr) → reach_without (At e) ≡ At (expression_without e)
unfolding expression_without reach_without
without-at e = fold_out-Reach _ _ _ _ _ _ _ _ _ _ _ _ (At e) ∙ rw (outs-At e) refl

pub without-field : (n : Name) → reach_without (Field n) ≡ Field (name_without n)
unfolding reach_without
without-field n = fold_out-Reach _ _ _ _ _ _ _ _ _ _ _ _ (Field n) ∙ rw (outs-Field n) refl

pub without-bounds : (a b : Expr) → domain_without (Bounds a b) ≡ Bounds (expression_without a) (expression_without b)
unfolding expression_without domain_without
without-bounds a b = fold_out-Domain _ _ _ _ _ _ _ _ _ _ _ _ (Bounds a b) ∙ rw (outs-Bounds a b) refl

pub without-bool : domain_without DomainBool ≡ DomainBool
unfolding domain_without
without-bool = fold_out-Domain _ _ _ _ _ _ _ _ _ _ _ _ DomainBool ∙ rw outs-Bool refl

pub without-named : (n : Name) → domain_without (Named n) ≡ Named (name_without n)
unfolding domain_without
without-named n = fold_out-Domain _ _ _ _ _ _ _ _ _ _ _ _ (Named n) ∙ rw (outs-Named n) refl
