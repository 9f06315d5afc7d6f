-- What an expression is worth, form by form.
use Rattle.std.proofs.Common.{◌≡◌, ℤ, Bool, not, Some, None, ◌==◌, List, ◌∷◌, map, refl, ap, ◌∙◌}
use Rattle.std.specs.Prelude.{neg_ℤ, pos, unsigned_abs}
use Rattle.std.specs.List.{flat_map}
use Rattle.intervals.specs.Ends.{Ends}
use Rattle.intervals.specs.declared.interval.Interval.{Interval}
use Rattle.hll_tree.specs.declared.tree.Branch.{Branch, fold_out-Branch}
use Rattle.hll_tree.specs.declared.tree.Cmp.{Cmp}
use Rattle.hll_tree.specs.declared.tree.Domain.{Domain, Bounds, Bool as Truths, Named, fold-Domain, fold_out-Domain}
use Rattle.hll_tree.specs.declared.tree.Domain.TheVariants.{outs-Bounds, outs-Bool, outs-Named}
use Rattle.hll_tree.specs.declared.tree.Expr.{Expr, fold_out-Expr}
use Rattle.hll_tree.specs.declared.tree.Form.{Form, Number, Truth, Path, Chain, Compare, Minus, Not, Choice, Group, Quant as Quantified, Pre, Least, Greatest, Size, Starting, Within, fold-Form, fold_out-Form}
use Rattle.hll_tree.specs.declared.tree.Form.TheVariants.{outs-Number, outs-Truth, outs-Path, outs-Chain, outs-Compare, outs-Minus, outs-Not, outs-Choice, outs-Group, outs-Quant, outs-Pre, outs-Least, outs-Greatest, outs-Size, outs-Starting, outs-Within}
use Rattle.hll_tree.specs.declared.tree.Link.{Link, fold_out-Link}
use Rattle.hll_tree.specs.declared.tree.Name.{Name}
use Rattle.hll_tree.specs.declared.tree.Op.{Op}
use Rattle.hll_tree.specs.declared.tree.Quant.{Quant}
use Rattle.hll_tree.specs.declared.tree.Reach.{Reach, At, Field, fold-Reach, fold_out-Reach}
use Rattle.hll_tree.specs.declared.tree.Reach.TheVariants.{outs-At, outs-Field}
use Rattle.hll_meaning.specs.Kinds.{Value, Step, index, name, truths, is_in}
use Rattle.hll_meaning.specs.Names.{under}
use Rattle.hll_meaning.specs.Values.{Scene, In, of_number, of_truth, number, is_true, chained, compared, chosen, quantified_value, numbers, named_domain, earlier, least, greatest, path_value, domain_range, reach_step, form_worth, worth}

-- the value of a form, as that of an expression has it
worth_of_form : Form → In Value
worth_of_form = fold-Form (In Ends) (In Value) (In Step) (In Value × In Value) (In Value) (Op × In Value) domain_range form_worth reach_step (λ b. (b.when, b.gives)) (λ e. e.form) (λ link. (link.op, link.with))

-- the numbers of a domain
pub domain_worth : Domain → In Ends
domain_worth = fold-Domain (In Ends) (In Value) (In Step) (In Value × In Value) (In Value) (Op × In Value) domain_range form_worth reach_step (λ b. (b.when, b.gives)) (λ e. e.form) (λ link. (link.op, link.with))

-- a step of a path
pub reach_worth : Reach → In Step
reach_worth = fold-Reach (In Ends) (In Value) (In Step) (In Value × In Value) (In Value) (Op × In Value) domain_range form_worth reach_step (λ b. (b.when, b.gives)) (λ e. e.form) (λ link. (link.op, link.with))

-- an operator beside what its right operand is worth
abbrev pub link_worth : Link → Op × In Value
link_worth link = (link.op, worth link.with)

worth-form : (e : Expr) (f : Form) → e.form ≡ f → (s : Scene) → worth e s ≡ worth_of_form f s
unfolding worth worth_of_form
worth-form e f is s = ap (λ (g : In Value). g s) (fold_out-Expr _ _ _ _ _ _ _ _ _ _ _ _ e ∙ ap worth_of_form is)

pub worth-number : (e : Expr) (n : ℤ) → e.form ≡ Number n → (s : Scene) → worth e s ≡ of_number n
unfolding worth worth_of_form
worth-number e n is s = worth-form e _ is s ∙ ap (λ (g : In Value). g s) (fold_out-Form _ _ _ _ _ _ _ _ _ _ _ _ (Number n)) ∙ rw (outs-Number n) refl

pub worth-truth : (e : Expr) (b : Bool) → e.form ≡ Truth b → (s : Scene) → worth e s ≡ of_truth b
unfolding worth worth_of_form
worth-truth e b is s = worth-form e _ is s ∙ ap (λ (g : In Value). g s) (fold_out-Form _ _ _ _ _ _ _ _ _ _ _ _ (Truth b)) ∙ rw (outs-Truth b) refl

pub worth-path : (e : Expr) (n : Name) (reaches : List Reach) → e.form ≡ Path n reaches → (s : Scene) → worth e s ≡ path_value n.text (map (λ r. r s) (map reach_worth reaches)) s
unfolding worth worth_of_form reach_worth
worth-path e n reaches is s = worth-form e _ is s ∙ ap (λ (g : In Value). g s) (fold_out-Form _ _ _ _ _ _ _ _ _ _ _ _ (Path n reaches)) ∙ rw (outs-Path n reaches) refl

pub worth-chain : (e : Expr) (first : Expr) (links : List Link) → e.form ≡ Chain first links → (s : Scene) →
    worth e s ≡ chained (worth first s) (map (λ link. (link.0, link.1 s)) (map link_worth links))
unfolding worth worth_of_form
worth-chain e first links is s = worth-form e _ is s ∙ ap (λ (g : In Value). g s) (fold_out-Form _ _ _ _ _ _ _ _ _ _ _ _ (Chain first links)) ∙ rw (outs-Chain first links)
    (λ i. chained (worth first s) (map (λ link. (link.0, link.1 s)) (map (λ link. fold_out-Link _ _ _ _ _ _ domain_range form_worth reach_step (λ b. (b.when, b.gives)) (λ e. e.form) (λ link. (link.op, link.with)) link i) links)))

pub worth-compare : (e : Expr) (c : Cmp) (a b : Expr) → e.form ≡ Compare c a b → (s : Scene) → worth e s ≡ of_truth (compared c (number (worth a s)) (number (worth b s)))
unfolding worth worth_of_form
worth-compare e c a b is s = worth-form e _ is s ∙ ap (λ (g : In Value). g s) (fold_out-Form _ _ _ _ _ _ _ _ _ _ _ _ (Compare c a b)) ∙ rw (outs-Compare c a b) refl

pub worth-minus : (e : Expr) (inner : Expr) → e.form ≡ Minus inner → (s : Scene) → worth e s ≡ of_number (neg_ℤ (number (worth inner s)))
unfolding worth worth_of_form
worth-minus e inner is s = worth-form e _ is s ∙ ap (λ (g : In Value). g s) (fold_out-Form _ _ _ _ _ _ _ _ _ _ _ _ (Minus inner)) ∙ rw (outs-Minus inner) refl

pub worth-not : (e : Expr) (inner : Expr) → e.form ≡ Not inner → (s : Scene) → worth e s ≡ of_truth (not (is_true (worth inner s)))
unfolding worth worth_of_form
worth-not e inner is s = worth-form e _ is s ∙ ap (λ (g : In Value). g s) (fold_out-Form _ _ _ _ _ _ _ _ _ _ _ _ (Not inner)) ∙ rw (outs-Not inner) refl

pub worth-choice : (e : Expr) (branches : List Branch) (otherwise : Expr) → e.form ≡ Choice branches otherwise → (s : Scene) → worth e s ≡ chosen (map (λ b. (worth b.when, worth b.gives)) branches) (worth otherwise) s
unfolding worth worth_of_form
worth-choice e branches otherwise is s = worth-form e _ is s ∙ ap (λ (g : In Value). g s) (fold_out-Form _ _ _ _ _ _ _ _ _ _ _ _ (Choice branches otherwise)) ∙ rw (outs-Choice branches otherwise) (λ i. chosen (map (λ b. fold_out-Branch _ _ _ _ _ _ domain_range form_worth reach_step (λ b. (b.when, b.gives)) (λ e. e.form) (λ link. (link.op, link.with)) b i) branches) (worth otherwise) s)

pub worth-group : (e : Expr) (parts : List Expr) → e.form ≡ Group parts → (s : Scene) → worth e s ≡ flat_map (λ e. e s) (map worth parts)
unfolding worth worth_of_form
worth-group e parts is s = worth-form e _ is s ∙ ap (λ (g : In Value). g s) (fold_out-Form _ _ _ _ _ _ _ _ _ _ _ _ (Group parts)) ∙ rw (outs-Group parts) refl

pub worth-quantified : (e : Expr) (q : Quant) (n : Name) (d : Domain) (body : Expr) → e.form ≡ Quantified q n d body → (s : Scene) → worth e s ≡ quantified_value q (map (λ x. worth body (record s { bound = (n.text, x) ∷ s.bound })) (numbers (domain_worth d s)))
unfolding worth worth_of_form domain_worth
worth-quantified e q n d body is s = worth-form e _ is s ∙ ap (λ (g : In Value). g s) (fold_out-Form _ _ _ _ _ _ _ _ _ _ _ _ (Quantified q n d body)) ∙ rw (outs-Quant q n d body) refl

pub worth-pre_alone : (e body : Expr) → e.form ≡ Pre body None → (s : Scene) → worth e s ≡ earlier (worth body) (λ at. None) s
unfolding worth worth_of_form
worth-pre_alone e body is s = worth-form e _ is s ∙ ap (λ (g : In Value). g s) (fold_out-Form _ _ _ _ _ _ _ _ _ _ _ _ (Pre body None)) ∙ rw (outs-Pre body None) refl

pub worth-pre_with : (e body first : Expr) → e.form ≡ Pre body (Some first) → (s : Scene) → worth e s ≡ earlier (worth body) (λ at. Some (worth first at)) s
unfolding worth worth_of_form
worth-pre_with e body first is s = worth-form e _ is s ∙ ap (λ (g : In Value). g s) (fold_out-Form _ _ _ _ _ _ _ _ _ _ _ _ (Pre body (Some first))) ∙ rw (outs-Pre body (Some first)) refl

pub worth-least : (e : Expr) (es : List Expr) → e.form ≡ Least es → (s : Scene) → worth e s ≡ of_number (least (map (λ e. e s) (map worth es)))
unfolding worth worth_of_form
worth-least e es is s = worth-form e _ is s ∙ ap (λ (g : In Value). g s) (fold_out-Form _ _ _ _ _ _ _ _ _ _ _ _ (Least es)) ∙ rw (outs-Least es) refl

pub worth-greatest : (e : Expr) (es : List Expr) → e.form ≡ Greatest es → (s : Scene) → worth e s ≡ of_number (greatest (map (λ e. e s) (map worth es)))
unfolding worth worth_of_form
worth-greatest e es is s = worth-form e _ is s ∙ ap (λ (g : In Value). g s) (fold_out-Form _ _ _ _ _ _ _ _ _ _ _ _ (Greatest es)) ∙ rw (outs-Greatest es) refl

pub worth-size : (e : Expr) (inner : Expr) → e.form ≡ Size inner → (s : Scene) → worth e s ≡ of_number (pos (unsigned_abs (number (worth inner s))))
unfolding worth worth_of_form
worth-size e inner is s = worth-form e _ is s ∙ ap (λ (g : In Value). g s) (fold_out-Form _ _ _ _ _ _ _ _ _ _ _ _ (Size inner)) ∙ rw (outs-Size inner) refl

pub worth-starting : (e : Expr) → e.form ≡ Starting → (s : Scene) → worth e s ≡ of_truth (s.time == 0)
unfolding worth worth_of_form
worth-starting e is s = worth-form e _ is s ∙ ap (λ (g : In Value). g s) (fold_out-Form _ _ _ _ _ _ _ _ _ _ _ _ Starting) ∙ rw outs-Starting refl

pub worth-within : (e : Expr) (inner : Expr) (i : Interval) → e.form ≡ Within inner i → (s : Scene) → worth e s ≡ of_truth (is_in (record { lo = i.lo; hi = i.hi }) (number (worth inner s)))
unfolding worth worth_of_form
worth-within e inner i is s = worth-form e _ is s ∙ ap (λ (g : In Value). g s) (fold_out-Form _ _ _ _ _ _ _ _ _ _ _ _ (Within inner i)) ∙ rw (outs-Within inner i) refl

pub domain_worth-bounds : (a b : Expr) (s : Scene) → domain_worth (Bounds a b) s ≡ record { lo = number (worth a s); hi = number (worth b s) }
unfolding worth domain_worth
domain_worth-bounds a b s = ap (λ (g : In Ends). g s) (fold_out-Domain _ _ _ _ _ _ _ _ _ _ _ _ (Bounds a b)) ∙ rw (outs-Bounds a b) refl

pub domain_worth-truths : (s : Scene) → domain_worth Truths s ≡ truths
unfolding domain_worth
domain_worth-truths s = ap (λ (g : In Ends). g s) (fold_out-Domain _ _ _ _ _ _ _ _ _ _ _ _ Truths) ∙ rw outs-Bool refl

pub domain_worth-named : (n : Name) (s : Scene) → domain_worth (Named n) s ≡ named_domain (under n.text s.names)
unfolding domain_worth
domain_worth-named n s = ap (λ (g : In Ends). g s) (fold_out-Domain _ _ _ _ _ _ _ _ _ _ _ _ (Named n)) ∙ rw (outs-Named n) refl

pub reach_worth-at : (e : Expr) (s : Scene) → reach_worth (At e) s ≡ index (number (worth e s))
unfolding worth reach_worth
reach_worth-at e s = ap (λ (g : In Step). g s) (fold_out-Reach _ _ _ _ _ _ _ _ _ _ _ _ (At e)) ∙ rw (outs-At e) refl

pub reach_worth-field : (n : Name) (s : Scene) → reach_worth (Field n) s ≡ name n.text
unfolding reach_worth
reach_worth-field n s = ap (λ (g : In Step). g s) (fold_out-Reach _ _ _ _ _ _ _ _ _ _ _ _ (Field n)) ∙ rw (outs-Field n) refl
