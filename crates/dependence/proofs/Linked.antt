-- Expressions in which each chain has a link, as all that are read have.
use Rattle.std.proofs.Common.{◌≡◌, ℤ, Bool, true, ◌&&◌, Some, None, List, [], ◌∷◌, map, refl, sym, ap, ◌∙◌}
use Rattle.intervals.specs.declared.interval.Interval.{Interval}
use Rattle.hll_tree.specs.declared.tree.Branch.{Branch, fold_out-Branch}
use Rattle.hll_tree.specs.declared.tree.Cmp.{Cmp}
use Rattle.hll_tree.specs.declared.tree.Domain.{Domain, Bounds, Bool as Truths, Named, fold-Domain, fold_out-Domain}
use Rattle.hll_tree.specs.declared.tree.Domain.TheVariants.{outs-Bounds, outs-Bool, outs-Named}
use Rattle.hll_tree.specs.declared.tree.Expr.{Expr, fold_out-Expr}
use Rattle.hll_tree.specs.declared.tree.Form.{Form, Form-F, Number, Truth, Path, Chain, Compare, Minus, Not, Choice, Group, Quant as Quantified, Pre, Least, Greatest, Size, Within, fold-Form, fold_out-Form}
use Rattle.hll_tree.specs.declared.tree.Form.TheVariants.{outs-Number, outs-Truth, outs-Path, outs-Chain, outs-Compare, outs-Minus, outs-Not, outs-Choice, outs-Group, outs-Quant, outs-Pre, outs-Least, outs-Greatest, outs-Size, outs-Within}
use Rattle.hll_tree.specs.declared.tree.Link.{Link, fold_out-Link}
use Rattle.hll_tree.specs.declared.tree.Name.{Name}
use Rattle.hll_tree.specs.declared.tree.Quant.{Quant}
use Rattle.hll_tree.specs.declared.tree.Reach.{Reach, At, Field, fold-Reach, fold_out-Reach}
use Rattle.hll_tree.specs.declared.tree.Reach.TheVariants.{outs-At, outs-Field}
use Rattle.dependence.specs.Links.{has_link, all_linked, form_of_linked, domain_of_linked, reach_of_linked, linked}

form_linked : Form → Bool
form_linked = fold-Form Bool Bool Bool Bool Bool Bool domain_of_linked form_of_linked reach_of_linked (λ b. b.when && b.gives) (λ e. e.form) (λ link. link.with)

pub domain_linked : Domain → Bool
domain_linked = fold-Domain Bool Bool Bool Bool Bool Bool domain_of_linked form_of_linked reach_of_linked (λ b. b.when && b.gives) (λ e. e.form) (λ link. link.with)

pub reach_linked : Reach → Bool
reach_linked = fold-Reach Bool Bool Bool Bool Bool Bool domain_of_linked form_of_linked reach_of_linked (λ b. b.when && b.gives) (λ e. e.form) (λ link. link.with)

abbrev pub branch_linked : Branch → Bool
branch_linked b = linked b.when && linked b.gives

abbrev pub link_linked : Link → Bool
link_linked link = linked link.with

linked-form : (e : Expr) (f : Form) → e.form ≡ f → linked e ≡ form_linked f
unfolding linked form_linked
linked-form e f is = fold_out-Expr _ _ _ _ _ _ _ _ _ _ _ _ e ∙ ap form_linked is

pub form-number : (e : Expr) (n : ℤ) → e.form ≡ Number n → linked e ≡ true
unfolding linked form_linked reach_linked domain_linked
form-number e n is = linked-form e _ is ∙ fold_out-Form _ _ _ _ _ _ _ _ _ _ _ _ (Number n) ∙ rw (outs-Number n) refl

pub form-truth : (e : Expr) (value : Bool) → e.form ≡ Truth value → linked e ≡ true
unfolding linked form_linked reach_linked domain_linked
form-truth e value is = linked-form e _ is ∙ fold_out-Form _ _ _ _ _ _ _ _ _ _ _ _ (Truth value) ∙ rw (outs-Truth value) refl

pub form-path : (e : Expr) (n : Name) (reaches : List Reach) → e.form ≡ Path n reaches → linked e ≡ all_linked (map reach_linked reaches)
unfolding linked form_linked reach_linked domain_linked
form-path e n reaches is = linked-form e _ is ∙ fold_out-Form _ _ _ _ _ _ _ _ _ _ _ _ (Path n reaches) ∙ rw (outs-Path n reaches) refl

pub linked-path : (e : Expr) (n : Name) (reaches : List Reach) → e.form ≡ Path n reaches → linked e ≡ true → (all_linked (map reach_linked reaches)) ≡ true
linked-path e n reaches is h = sym (form-path e n reaches is) ∙ h

pub form-chain : (e : Expr) (first : Expr) (links : List Link) → e.form ≡ Chain first links → linked e ≡ (linked first && has_link (map link_linked links) && all_linked (map link_linked links))
unfolding linked form_linked reach_linked domain_linked
form-chain e first links is = linked-form e _ is ∙ fold_out-Form _ _ _ _ _ _ _ _ _ _ _ _ (Chain first links) ∙ rw (outs-Chain first links) (λ i. form_of_linked (Form-F.Chain (linked first) (map (λ link. fold_out-Link _ _ _ _ _ _ domain_of_linked form_of_linked reach_of_linked (λ b. b.when && b.gives) (λ e. e.form) (λ link. link.with) link i) links)))

pub linked-chain : (e : Expr) (first : Expr) (links : List Link) → e.form ≡ Chain first links → linked e ≡ true → (linked first && has_link (map link_linked links) && all_linked (map link_linked links)) ≡ true
linked-chain e first links is h = sym (form-chain e first links is) ∙ h

pub form-compare : (e : Expr) (o : Cmp) (a b : Expr) → e.form ≡ Compare o a b → linked e ≡ (linked a && linked b)
unfolding linked form_linked reach_linked domain_linked
form-compare e o a b is = linked-form e _ is ∙ fold_out-Form _ _ _ _ _ _ _ _ _ _ _ _ (Compare o a b) ∙ rw (outs-Compare o a b) refl

pub linked-compare : (e : Expr) (o : Cmp) (a b : Expr) → e.form ≡ Compare o a b → linked e ≡ true → (linked a && linked b) ≡ true
linked-compare e o a b is h = sym (form-compare e o a b is) ∙ h

pub form-minus : (e : Expr) (inner : Expr) → e.form ≡ Minus inner → linked e ≡ linked inner
unfolding linked form_linked reach_linked domain_linked
form-minus e inner is = linked-form e _ is ∙ fold_out-Form _ _ _ _ _ _ _ _ _ _ _ _ (Minus inner) ∙ rw (outs-Minus inner) refl

pub linked-minus : (e : Expr) (inner : Expr) → e.form ≡ Minus inner → linked e ≡ true → (linked inner) ≡ true
linked-minus e inner is h = sym (form-minus e inner is) ∙ h

pub form-not : (e : Expr) (inner : Expr) → e.form ≡ Not inner → linked e ≡ linked inner
unfolding linked form_linked reach_linked domain_linked
form-not e inner is = linked-form e _ is ∙ fold_out-Form _ _ _ _ _ _ _ _ _ _ _ _ (Not inner) ∙ rw (outs-Not inner) refl

pub linked-not : (e : Expr) (inner : Expr) → e.form ≡ Not inner → linked e ≡ true → (linked inner) ≡ true
linked-not e inner is h = sym (form-not e inner is) ∙ h

pub form-choice : (e : Expr) (branches : List Branch) (otherwise : Expr) → e.form ≡ Choice branches otherwise → linked e ≡ (all_linked (map branch_linked branches) && linked otherwise)
unfolding linked form_linked reach_linked domain_linked
form-choice e branches otherwise is = linked-form e _ is ∙ fold_out-Form _ _ _ _ _ _ _ _ _ _ _ _ (Choice branches otherwise) ∙ rw (outs-Choice branches otherwise) (λ i. form_of_linked (Form-F.Choice (map (λ b. fold_out-Branch _ _ _ _ _ _ domain_of_linked form_of_linked reach_of_linked (λ b. b.when && b.gives) (λ e. e.form) (λ link. link.with) b i) branches) (linked otherwise)))

pub linked-choice : (e : Expr) (branches : List Branch) (otherwise : Expr) → e.form ≡ Choice branches otherwise → linked e ≡ true → (all_linked (map branch_linked branches) && linked otherwise) ≡ true
linked-choice e branches otherwise is h = sym (form-choice e branches otherwise is) ∙ h

pub form-group : (e : Expr) (parts : List Expr) → e.form ≡ Group parts → linked e ≡ all_linked (map linked parts)
unfolding linked form_linked reach_linked domain_linked
form-group e parts is = linked-form e _ is ∙ fold_out-Form _ _ _ _ _ _ _ _ _ _ _ _ (Group parts) ∙ rw (outs-Group parts) refl

pub linked-group : (e : Expr) (parts : List Expr) → e.form ≡ Group parts → linked e ≡ true → (all_linked (map linked parts)) ≡ true
linked-group e parts is h = sym (form-group e parts is) ∙ h

pub form-quantified : (e : Expr) (q : Quant) (n : Name) (d : Domain) (body : Expr) → e.form ≡ Quantified q n d body → linked e ≡ (domain_linked d && linked body)
unfolding linked form_linked reach_linked domain_linked
form-quantified e q n d body is = linked-form e _ is ∙ fold_out-Form _ _ _ _ _ _ _ _ _ _ _ _ (Quantified q n d body) ∙ rw (outs-Quant q n d body) refl

pub linked-quantified : (e : Expr) (q : Quant) (n : Name) (d : Domain) (body : Expr) → e.form ≡ Quantified q n d body → linked e ≡ true → (domain_linked d && linked body) ≡ true
linked-quantified e q n d body is h = sym (form-quantified e q n d body is) ∙ h

pub form-pre_alone : (e : Expr) (body : Expr) → e.form ≡ Pre body None → linked e ≡ linked body
unfolding linked form_linked reach_linked domain_linked
form-pre_alone e body is = linked-form e _ is ∙ fold_out-Form _ _ _ _ _ _ _ _ _ _ _ _ (Pre body None) ∙ rw (outs-Pre body None) refl

pub linked-pre_alone : (e : Expr) (body : Expr) → e.form ≡ Pre body None → linked e ≡ true → (linked body) ≡ true
linked-pre_alone e body is h = sym (form-pre_alone e body is) ∙ h

pub form-pre_with : (e : Expr) (body first : Expr) → e.form ≡ Pre body (Some first) → linked e ≡ (linked body && linked first)
unfolding linked form_linked reach_linked domain_linked
form-pre_with e body first is = linked-form e _ is ∙ fold_out-Form _ _ _ _ _ _ _ _ _ _ _ _ (Pre body (Some first)) ∙ rw (outs-Pre body (Some first)) refl

pub linked-pre_with : (e : Expr) (body first : Expr) → e.form ≡ Pre body (Some first) → linked e ≡ true → (linked body && linked first) ≡ true
linked-pre_with e body first is h = sym (form-pre_with e body first is) ∙ h

pub form-least : (e : Expr) (es : List Expr) → e.form ≡ Least es → linked e ≡ all_linked (map linked es)
unfolding linked form_linked reach_linked domain_linked
form-least e es is = linked-form e _ is ∙ fold_out-Form _ _ _ _ _ _ _ _ _ _ _ _ (Least es) ∙ rw (outs-Least es) refl

pub linked-least : (e : Expr) (es : List Expr) → e.form ≡ Least es → linked e ≡ true → (all_linked (map linked es)) ≡ true
linked-least e es is h = sym (form-least e es is) ∙ h

pub form-greatest : (e : Expr) (es : List Expr) → e.form ≡ Greatest es → linked e ≡ all_linked (map linked es)
unfolding linked form_linked reach_linked domain_linked
form-greatest e es is = linked-form e _ is ∙ fold_out-Form _ _ _ _ _ _ _ _ _ _ _ _ (Greatest es) ∙ rw (outs-Greatest es) refl

pub linked-greatest : (e : Expr) (es : List Expr) → e.form ≡ Greatest es → linked e ≡ true → (all_linked (map linked es)) ≡ true
linked-greatest e es is h = sym (form-greatest e es is) ∙ h

pub form-size : (e : Expr) (inner : Expr) → e.form ≡ Size inner → linked e ≡ linked inner
unfolding linked form_linked reach_linked domain_linked
form-size e inner is = linked-form e _ is ∙ fold_out-Form _ _ _ _ _ _ _ _ _ _ _ _ (Size inner) ∙ rw (outs-Size inner) refl

pub linked-size : (e : Expr) (inner : Expr) → e.form ≡ Size inner → linked e ≡ true → (linked inner) ≡ true
linked-size e inner is h = sym (form-size e inner is) ∙ h

pub form-within : (e : Expr) (inner : Expr) (i : Interval) → e.form ≡ Within inner i → linked e ≡ linked inner
unfolding linked form_linked reach_linked domain_linked
form-within e inner i is = linked-form e _ is ∙ fold_out-Form _ _ _ _ _ _ _ _ _ _ _ _ (Within inner i) ∙ rw (outs-Within inner i) refl

pub linked-within : (e : Expr) (inner : Expr) (i : Interval) → e.form ≡ Within inner i → linked e ≡ true → (linked inner) ≡ true
linked-within e inner i is h = sym (form-within e inner i is) ∙ h

pub form-bounds : (a b : Expr) → domain_linked (Bounds a b) ≡ (linked a && linked b)
unfolding linked domain_linked
form-bounds a b = fold_out-Domain _ _ _ _ _ _ _ _ _ _ _ _ (Bounds a b) ∙ rw (outs-Bounds a b) refl

pub linked-bounds : (a b : Expr) → domain_linked (Bounds a b) ≡ true → (linked a && linked b) ≡ true
linked-bounds a b h = sym (form-bounds a b) ∙ h

pub form-truths : domain_linked Truths ≡ true
unfolding linked domain_linked
form-truths = fold_out-Domain _ _ _ _ _ _ _ _ _ _ _ _ Truths ∙ rw outs-Bool refl

pub form-named : (n : Name) → domain_linked (Named n) ≡ true
unfolding linked domain_linked
form-named n = fold_out-Domain _ _ _ _ _ _ _ _ _ _ _ _ (Named n) ∙ rw (outs-Named n) refl

pub form-at : (e : Expr) → reach_linked (At e) ≡ linked e
unfolding linked reach_linked
form-at e = fold_out-Reach _ _ _ _ _ _ _ _ _ _ _ _ (At e) ∙ rw (outs-At e) refl

pub linked-at : (e : Expr) → reach_linked (At e) ≡ true → linked e ≡ true
linked-at e h = sym (form-at e) ∙ h

pub form-field : (n : Name) → reach_linked (Field n) ≡ true
unfolding linked reach_linked
form-field n = fold_out-Reach _ _ _ _ _ _ _ _ _ _ _ _ (Field n) ∙ rw (outs-Field n) refl

-- a chain has a link
pub some_link : (ls : List Link) → has_link (map link_linked ls) ≡ true → ls ≡ [] → ⊥
some_link [] h is = cc h
some_link (l ∷ ls) h is = cc is
