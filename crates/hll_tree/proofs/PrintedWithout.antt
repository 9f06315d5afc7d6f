-- Printing leaves places out.
use Rattle.std.proofs.Common.{◌≡◌, ℕ, suc, ℤ, Bool, Option, Some, None, List, [], ◌∷◌, map, refl, sym, ap, subst, ◌∙◌}
use Rattle.std.specs.Prelude.{option_map}
use Rattle.intervals.specs.declared.interval.Interval.{Interval}
use Rattle.hll_tree.specs.declared.tree.Branch.{Branch, roll-Branch}
use Rattle.hll_tree.specs.declared.tree.Cmp.{Cmp}
use Rattle.hll_tree.specs.declared.tree.Domain.{Domain, Domain-F, Bounds, Named, roll-Domain}
use Rattle.hll_tree.specs.declared.tree.Domain.TheVariants.{rolls-Bounds, rolls-Bool, rolls-Named}
use Rattle.hll_tree.specs.declared.tree.Domain.TheFolds.{map-Domain, map-Form, map-Reach}
use Rattle.hll_tree.specs.declared.tree.Expr.{Expr, roll-Expr, ind-Expr}
use Rattle.hll_tree.specs.declared.tree.Form.{Form, Form-F, Number, Truth, Path, Chain, Compare, Minus, Not, Choice, Group, Quant as Quantified, Pre, Least, Greatest, Size, Starting, Within, roll-Form, out-Form}
use Rattle.hll_tree.specs.declared.tree.Form.TheVariants.{outs-Number, outs-Truth, outs-Path, outs-Chain, outs-Compare, outs-Minus, outs-Not, outs-Choice, outs-Group, outs-Quant, outs-Pre, outs-Least, outs-Greatest, outs-Size, outs-Within, outs-Starting}
use Rattle.hll_tree.specs.declared.tree.Form.TheVariants.{rolls-Number, rolls-Truth, rolls-Path, rolls-Chain, rolls-Compare, rolls-Minus, rolls-Not, rolls-Choice, rolls-Group, rolls-Quant, rolls-Pre, rolls-Least, rolls-Greatest, rolls-Size, rolls-Within, rolls-Starting}
use Rattle.hll_tree.specs.declared.tree.Link.{Link, roll-Link}
use Rattle.hll_tree.specs.declared.tree.Name.{Name}
use Rattle.hll_tree.specs.declared.tree.Quant.{Quant}
use Rattle.hll_tree.specs.declared.tree.Reach.{Reach, Reach-F, At, Field, roll-Reach}
use Rattle.hll_tree.specs.declared.tree.Reach.TheVariants.{rolls-At, rolls-Field}
use Rattle.hll_tree.specs.Printing.{plainly, at_level, chain_level, form_text, reach_text, domain_text, is_bare, is_bare_form, printed}
use Rattle.hll_tree.specs.PrintedParts.{printed_domain, printed_reach, printed_branch, printed_link}
use Rattle.hll_tree.specs.Spells.{precedence_of}
use Rattle.hll_tree.specs.WithoutPlaces.{name_without, expression_without}
use Rattle.hll_tree.proofs.Printed.{printed-number, printed-truth, printed-path, printed-chain, printed-compare, printed-minus, printed-not, printed-choice, printed-group, printed-quant, printed-pre, printed-least, printed-greatest, printed-size, printed-within, printed-starting, printed-at, printed-field, printed-bounds, printed-named}
use Rattle.hll_tree.proofs.Without.{at_zero, reach_without, domain_without, branch_without, link_without, without-number, without-truth, without-path, without-chain, without-compare, without-minus, without-not, without-choice, without-group, without-quant, without-pre, without-least, without-greatest, without-size, without-within, without-starting, without-at, without-field, without-bounds, without-bool, without-named}

-- an expression is printed as it is without its places
abbrev pub IsSame : Expr → Type 0
IsSame e = (printed (expression_without e) ≡ printed e) × (is_bare (expression_without e) ≡ is_bare e)

abbrev IsSameForm : Form → Type 0
IsSameForm f = (at : ℕ) → IsSame (roll-Expr (record { at = at; form = f }))

abbrev IsSameDomain : Domain → Type 0
IsSameDomain d = printed_domain (domain_without d) ≡ printed_domain d

abbrev IsSameReach : Reach → Type 0
IsSameReach r = printed_reach (reach_without r) ≡ printed_reach r

abbrev IsSameBranch : Branch → Type 0
IsSameBranch b = printed_branch (branch_without b) ≡ printed_branch b

abbrev IsSameLink : Link → Type 0
IsSameLink k = printed_link (link_without k) ≡ printed_link k

bare_by : (e : Expr) (f : Form) → e.form ≡ f → is_bare e ≡ is_bare_form (out-Form f)
bare_by e f is = ap (λ g. is_bare_form (out-Form g)) is

-- ---- one level

same_number : (e : Expr) (n : ℤ) → e.form ≡ Number n → IsSame e
same_number e n is = (
  ap printed (without-number e n is) ∙ printed-number (at_zero (Number n)) n refl ∙ sym (printed-number e n is),
  ap is_bare (without-number e n is) ∙ bare_by (at_zero (Number n)) (Number n) refl ∙ (ap is_bare_form (outs-Number n)) ∙ sym (ap is_bare_form (outs-Number n)) ∙ sym (bare_by e (Number n) is),
)

same_truth : (e : Expr) (b : Bool) → e.form ≡ Truth b → IsSame e
same_truth e b is = (
  ap printed (without-truth e b is) ∙ printed-truth (at_zero (Truth b)) b refl ∙ sym (printed-truth e b is),
  ap is_bare (without-truth e b is) ∙ bare_by (at_zero (Truth b)) (Truth b) refl ∙ (ap is_bare_form (outs-Truth b)) ∙ sym (ap is_bare_form (outs-Truth b)) ∙ sym (bare_by e (Truth b) is),
)

path_bare : (n : Name) (rs : List Reach) → is_bare_form (out-Form (Path (name_without n) (map reach_without rs))) ≡ is_bare_form (out-Form (Path n rs))
path_bare n [] = rw (outs-Path (name_without n) []) (rw (outs-Path n []) refl)
path_bare n (r ∷ rs) = rw (outs-Path (name_without n) (map reach_without (r ∷ rs))) (rw (outs-Path n (r ∷ rs)) refl)

same_path : (e : Expr) (n : Name) (rs : List Reach) → e.form ≡ Path n rs → (map printed_reach (map reach_without rs) ≡ map printed_reach rs) → IsSame e
same_path e n rs is h0 = (
  ap printed (without-path e n rs is) ∙ printed-path (at_zero (Path (name_without n) (map reach_without rs))) (name_without n) (map reach_without rs) refl ∙ ap (λ z. form_text (Form-F.Path (name_without n) z)) h0 ∙ sym (printed-path e n rs is),
  ap is_bare (without-path e n rs is) ∙ bare_by (at_zero (Path (name_without n) (map reach_without rs))) (Path (name_without n) (map reach_without rs)) refl ∙ path_bare n rs ∙ sym (bare_by e (Path n rs) is),
)

same_chain : (e : Expr) (first : Expr) (links : List Link) → e.form ≡ Chain first links → (printed (expression_without first) ≡ printed first) → (map printed_link (map link_without links) ≡ map printed_link links) → IsSame e
same_chain e first links is h0 h1 = (
  ap printed (without-chain e first links is) ∙ printed-chain (at_zero (Chain (expression_without first) (map link_without links))) (expression_without first) (map link_without links) refl ∙ ap (λ z. form_text (Form-F.Chain z (map printed_link (map link_without links)))) h0 ∙ ap (λ z. form_text (Form-F.Chain (printed first) z)) h1 ∙ sym (printed-chain e first links is),
  ap is_bare (without-chain e first links is) ∙ bare_by (at_zero (Chain (expression_without first) (map link_without links))) (Chain (expression_without first) (map link_without links)) refl ∙ (ap is_bare_form (outs-Chain (expression_without first) (map link_without links))) ∙ sym (ap is_bare_form (outs-Chain first links)) ∙ sym (bare_by e (Chain first links) is),
)

same_compare : (e : Expr) (c : Cmp) (a : Expr) (b : Expr) → e.form ≡ Compare c a b → (printed (expression_without a) ≡ printed a) → (printed (expression_without b) ≡ printed b) → IsSame e
same_compare e c a b is h0 h1 = (
  ap printed (without-compare e c a b is) ∙ printed-compare (at_zero (Compare c (expression_without a) (expression_without b))) c (expression_without a) (expression_without b) refl ∙ ap (λ z. form_text (Form-F.Compare c z (printed (expression_without b)))) h0 ∙ ap (λ z. form_text (Form-F.Compare c (printed a) z)) h1 ∙ sym (printed-compare e c a b is),
  ap is_bare (without-compare e c a b is) ∙ bare_by (at_zero (Compare c (expression_without a) (expression_without b))) (Compare c (expression_without a) (expression_without b)) refl ∙ (ap is_bare_form (outs-Compare c (expression_without a) (expression_without b))) ∙ sym (ap is_bare_form (outs-Compare c a b)) ∙ sym (bare_by e (Compare c a b) is),
)

same_minus : (e : Expr) (x : Expr) → e.form ≡ Minus x → (printed (expression_without x) ≡ printed x) → IsSame e
same_minus e x is h0 = (
  ap printed (without-minus e x is) ∙ printed-minus (at_zero (Minus (expression_without x))) (expression_without x) refl ∙ ap (λ z. form_text (Form-F.Minus z)) h0 ∙ sym (printed-minus e x is),
  ap is_bare (without-minus e x is) ∙ bare_by (at_zero (Minus (expression_without x))) (Minus (expression_without x)) refl ∙ (ap is_bare_form (outs-Minus (expression_without x))) ∙ sym (ap is_bare_form (outs-Minus x)) ∙ sym (bare_by e (Minus x) is),
)

same_not : (e : Expr) (x : Expr) → e.form ≡ Not x → (printed (expression_without x) ≡ printed x) → IsSame e
same_not e x is h0 = (
  ap printed (without-not e x is) ∙ printed-not (at_zero (Not (expression_without x))) (expression_without x) refl ∙ ap (λ z. form_text (Form-F.Not z)) h0 ∙ sym (printed-not e x is),
  ap is_bare (without-not e x is) ∙ bare_by (at_zero (Not (expression_without x))) (Not (expression_without x)) refl ∙ (ap is_bare_form (outs-Not (expression_without x))) ∙ sym (ap is_bare_form (outs-Not x)) ∙ sym (bare_by e (Not x) is),
)

same_choice : (e : Expr) (branches : List Branch) (x : Expr) → e.form ≡ Choice branches x → (map printed_branch (map branch_without branches) ≡ map printed_branch branches) → (printed (expression_without x) ≡ printed x) → IsSame e
same_choice e branches x is h0 h1 = (
  ap printed (without-choice e branches x is) ∙ printed-choice (at_zero (Choice (map branch_without branches) (expression_without x))) (map branch_without branches) (expression_without x) refl ∙ ap (λ z. form_text (Form-F.Choice z (printed (expression_without x)))) h0 ∙ ap (λ z. form_text (Form-F.Choice (map printed_branch branches) z)) h1 ∙ sym (printed-choice e branches x is),
  ap is_bare (without-choice e branches x is) ∙ bare_by (at_zero (Choice (map branch_without branches) (expression_without x))) (Choice (map branch_without branches) (expression_without x)) refl ∙ (ap is_bare_form (outs-Choice (map branch_without branches) (expression_without x))) ∙ sym (ap is_bare_form (outs-Choice branches x)) ∙ sym (bare_by e (Choice branches x) is),
)

same_group : (e : Expr) (xs : List Expr) → e.form ≡ Group xs → (map printed (map expression_without xs) ≡ map printed xs) → IsSame e
same_group e xs is h0 = (
  ap printed (without-group e xs is) ∙ printed-group (at_zero (Group (map expression_without xs))) (map expression_without xs) refl ∙ ap (λ z. form_text (Form-F.Group z)) h0 ∙ sym (printed-group e xs is),
  ap is_bare (without-group e xs is) ∙ bare_by (at_zero (Group (map expression_without xs))) (Group (map expression_without xs)) refl ∙ (ap is_bare_form (outs-Group (map expression_without xs))) ∙ sym (ap is_bare_form (outs-Group xs)) ∙ sym (bare_by e (Group xs) is),
)

same_quant : (e : Expr) (q : Quant) (n : Name) (d : Domain) (x : Expr) → e.form ≡ Quantified q n d x → (printed_domain (domain_without d) ≡ printed_domain d) → (printed (expression_without x) ≡ printed x) → IsSame e
same_quant e q n d x is h0 h1 = (
  ap printed (without-quant e q n d x is) ∙ printed-quant (at_zero (Quantified q (name_without n) (domain_without d) (expression_without x))) q (name_without n) (domain_without d) (expression_without x) refl ∙ ap (λ z. form_text (Form-F.Quant q (name_without n) z (printed (expression_without x)))) h0 ∙ ap (λ z. form_text (Form-F.Quant q (name_without n) (printed_domain d) z)) h1 ∙ sym (printed-quant e q n d x is),
  ap is_bare (without-quant e q n d x is) ∙ bare_by (at_zero (Quantified q (name_without n) (domain_without d) (expression_without x))) (Quantified q (name_without n) (domain_without d) (expression_without x)) refl ∙ (ap is_bare_form (outs-Quant q (name_without n) (domain_without d) (expression_without x))) ∙ sym (ap is_bare_form (outs-Quant q n d x)) ∙ sym (bare_by e (Quantified q n d x) is),
)

same_pre : (e : Expr) (x : Expr) (first : Option Expr) → e.form ≡ Pre x first → (printed (expression_without x) ≡ printed x) → (option_map printed (option_map expression_without first) ≡ option_map printed first) → IsSame e
same_pre e x first is h0 h1 = (
  ap printed (without-pre e x first is) ∙ printed-pre (at_zero (Pre (expression_without x) (option_map expression_without first))) (expression_without x) (option_map expression_without first) refl ∙ ap (λ z. form_text (Form-F.Pre z (option_map printed (option_map expression_without first)))) h0 ∙ ap (λ z. form_text (Form-F.Pre (printed x) z)) h1 ∙ sym (printed-pre e x first is),
  ap is_bare (without-pre e x first is) ∙ bare_by (at_zero (Pre (expression_without x) (option_map expression_without first))) (Pre (expression_without x) (option_map expression_without first)) refl ∙ (ap is_bare_form (outs-Pre (expression_without x) (option_map expression_without first))) ∙ sym (ap is_bare_form (outs-Pre x first)) ∙ sym (bare_by e (Pre x first) is),
)

same_least : (e : Expr) (xs : List Expr) → e.form ≡ Least xs → (map printed (map expression_without xs) ≡ map printed xs) → IsSame e
same_least e xs is h0 = (
  ap printed (without-least e xs is) ∙ printed-least (at_zero (Least (map expression_without xs))) (map expression_without xs) refl ∙ ap (λ z. form_text (Form-F.Least z)) h0 ∙ sym (printed-least e xs is),
  ap is_bare (without-least e xs is) ∙ bare_by (at_zero (Least (map expression_without xs))) (Least (map expression_without xs)) refl ∙ (ap is_bare_form (outs-Least (map expression_without xs))) ∙ sym (ap is_bare_form (outs-Least xs)) ∙ sym (bare_by e (Least xs) is),
)

same_greatest : (e : Expr) (xs : List Expr) → e.form ≡ Greatest xs → (map printed (map expression_without xs) ≡ map printed xs) → IsSame e
same_greatest e xs is h0 = (
  ap printed (without-greatest e xs is) ∙ printed-greatest (at_zero (Greatest (map expression_without xs))) (map expression_without xs) refl ∙ ap (λ z. form_text (Form-F.Greatest z)) h0 ∙ sym (printed-greatest e xs is),
  ap is_bare (without-greatest e xs is) ∙ bare_by (at_zero (Greatest (map expression_without xs))) (Greatest (map expression_without xs)) refl ∙ (ap is_bare_form (outs-Greatest (map expression_without xs))) ∙ sym (ap is_bare_form (outs-Greatest xs)) ∙ sym (bare_by e (Greatest xs) is),
)

same_size : (e : Expr) (x : Expr) → e.form ≡ Size x → (printed (expression_without x) ≡ printed x) → IsSame e
same_size e x is h0 = (
  ap printed (without-size e x is) ∙ printed-size (at_zero (Size (expression_without x))) (expression_without x) refl ∙ ap (λ z. form_text (Form-F.Size z)) h0 ∙ sym (printed-size e x is),
  ap is_bare (without-size e x is) ∙ bare_by (at_zero (Size (expression_without x))) (Size (expression_without x)) refl ∙ (ap is_bare_form (outs-Size (expression_without x))) ∙ sym (ap is_bare_form (outs-Size x)) ∙ sym (bare_by e (Size x) is),
)

same_within : (e : Expr) (x : Expr) (i : Interval) → e.form ≡ Within x i → (printed (expression_without x) ≡ printed x) → IsSame e
same_within e x i is h0 = (
  ap printed (without-within e x i is) ∙ printed-within (at_zero (Within (expression_without x) i)) (expression_without x) i refl ∙ ap (λ z. form_text (Form-F.Within z i)) h0 ∙ sym (printed-within e x i is),
  ap is_bare (without-within e x i is) ∙ bare_by (at_zero (Within (expression_without x) i)) (Within (expression_without x) i) refl ∙ (ap is_bare_form (outs-Within (expression_without x) i)) ∙ sym (ap is_bare_form (outs-Within x i)) ∙ sym (bare_by e (Within x i) is),
)

same_starting : (e : Expr) → e.form ≡ Starting → IsSame e
same_starting e is = (
  ap printed (without-starting e is) ∙ printed-starting (at_zero Starting) refl ∙ sym (printed-starting e is),
  ap is_bare (without-starting e is) ∙ bare_by (at_zero Starting) Starting refl ∙ (ap is_bare_form (outs-Starting)) ∙ sym (ap is_bare_form (outs-Starting)) ∙ sym (bare_by e Starting is),
)

-- ---- any depth

all_same : {X Y Z : Type 0} (g : X → Z) (u : X → X) (r : Y → X) → ((y : Y) → g (u (r y)) ≡ g (r y)) → (ys : List Y) → map g (map u (map r ys)) ≡ map g (map r ys)
all_same g u r each [] = refl
all_same g u r each (y ∷ ys) = ap (λ z. z ∷ map g (map u (map r ys))) (each y) ∙ ap (λ zs. g (r y) ∷ zs) (all_same g u r each ys)

abbrev D : Type 0
D = (d : Domain) × IsSameDomain d

abbrev F : Type 0
F = (f : Form) × IsSameForm f

abbrev R : Type 0
R = (r : Reach) × IsSameReach r

abbrev B : Type 0
B = (b : Branch) × IsSameBranch b

abbrev E : Type 0
E = (e : Expr) × IsSame e

abbrev L : Type 0
L = (k : Link) × IsSameLink k

abbrev forms : Form-F D F R B E L → Form-F Domain Form Reach Branch Expr Link
forms = map-Form D F R B E L Domain Form Reach Branch Expr Link (λ z. z.0) (λ z. z.0) (λ z. z.0) (λ z. z.0) (λ z. z.0) (λ z. z.0)

form_step : (y : Form-F D F R B E L) → IsSameForm (roll-Form (forms y))
form_step (Form-F.Number n) = λ at. same_number (roll-Expr (record { at = at; form = roll-Form (Form-F.Number n) })) n (rolls-Number n)
form_step (Form-F.Truth b) = λ at. same_truth (roll-Expr (record { at = at; form = roll-Form (Form-F.Truth b) })) b (rolls-Truth b)
form_step (Form-F.Path n rs) = λ at. same_path (roll-Expr (record { at = at; form = roll-Form (Form-F.Path n (map (λ z. z.0) rs)) })) n (map (λ z. z.0) rs) (rolls-Path n (map (λ z. z.0) rs)) (all_same printed_reach reach_without (λ (z : R). z.0) (λ z. z.1) rs)
form_step (Form-F.Chain first links) = λ at. same_chain (roll-Expr (record { at = at; form = roll-Form (Form-F.Chain first.0 (map (λ z. z.0) links)) })) first.0 (map (λ z. z.0) links) (rolls-Chain first.0 (map (λ z. z.0) links)) first.1.0 (all_same printed_link link_without (λ (z : L). z.0) (λ z. z.1) links)
form_step (Form-F.Compare c a b) = λ at. same_compare (roll-Expr (record { at = at; form = roll-Form (Form-F.Compare c a.0 b.0) })) c a.0 b.0 (rolls-Compare c a.0 b.0) a.1.0 b.1.0
form_step (Form-F.Minus x) = λ at. same_minus (roll-Expr (record { at = at; form = roll-Form (Form-F.Minus x.0) })) x.0 (rolls-Minus x.0) x.1.0
form_step (Form-F.Not x) = λ at. same_not (roll-Expr (record { at = at; form = roll-Form (Form-F.Not x.0) })) x.0 (rolls-Not x.0) x.1.0
form_step (Form-F.Choice branches x) = λ at. same_choice (roll-Expr (record { at = at; form = roll-Form (Form-F.Choice (map (λ z. z.0) branches) x.0) })) (map (λ z. z.0) branches) x.0 (rolls-Choice (map (λ z. z.0) branches) x.0) (all_same printed_branch branch_without (λ (z : B). z.0) (λ z. z.1) branches) x.1.0
form_step (Form-F.Group xs) = λ at. same_group (roll-Expr (record { at = at; form = roll-Form (Form-F.Group (map (λ z. z.0) xs)) })) (map (λ z. z.0) xs) (rolls-Group (map (λ z. z.0) xs)) (all_same printed expression_without (λ (z : E). z.0) (λ z. z.1.0) xs)
form_step (Form-F.Quant q n d x) = λ at. same_quant (roll-Expr (record { at = at; form = roll-Form (Form-F.Quant q n d.0 x.0) })) q n d.0 x.0 (rolls-Quant q n d.0 x.0) d.1 x.1.0
form_step (Form-F.Pre x None) = λ at. same_pre (roll-Expr (record { at = at; form = roll-Form (Form-F.Pre x.0 None) })) x.0 None (rolls-Pre x.0 None) x.1.0 refl
form_step (Form-F.Pre x (Some first)) = λ at. same_pre (roll-Expr (record { at = at; form = roll-Form (Form-F.Pre x.0 (Some first.0)) })) x.0 (Some first.0) (rolls-Pre x.0 (Some first.0)) x.1.0 (ap (λ z. Some z) first.1.0)
form_step (Form-F.Least xs) = λ at. same_least (roll-Expr (record { at = at; form = roll-Form (Form-F.Least (map (λ z. z.0) xs)) })) (map (λ z. z.0) xs) (rolls-Least (map (λ z. z.0) xs)) (all_same printed expression_without (λ (z : E). z.0) (λ z. z.1.0) xs)
form_step (Form-F.Greatest xs) = λ at. same_greatest (roll-Expr (record { at = at; form = roll-Form (Form-F.Greatest (map (λ z. z.0) xs)) })) (map (λ z. z.0) xs) (rolls-Greatest (map (λ z. z.0) xs)) (all_same printed expression_without (λ (z : E). z.0) (λ z. z.1.0) xs)
form_step (Form-F.Size x) = λ at. same_size (roll-Expr (record { at = at; form = roll-Form (Form-F.Size x.0) })) x.0 (rolls-Size x.0) x.1.0
form_step (Form-F.Within x i) = λ at. same_within (roll-Expr (record { at = at; form = roll-Form (Form-F.Within x.0 i) })) x.0 i (rolls-Within x.0 i) x.1.0
form_step Form-F.Starting = λ at. same_starting (roll-Expr (record { at = at; form = roll-Form Form-F.Starting })) rolls-Starting

reach_step : (y : Reach-F D F R B E L) → IsSameReach (roll-Reach (map-Reach D F R B E L Domain Form Reach Branch Expr Link (λ z. z.0) (λ z. z.0) (λ z. z.0) (λ z. z.0) (λ z. z.0) (λ z. z.0) y))
reach_step (Reach-F.At e) =
    subst IsSameReach (sym (rolls-At e.0)) (ap printed_reach (without-at e.0) ∙ printed-at (At (expression_without e.0)) (expression_without e.0) refl ∙ ap (λ p. reach_text (Reach-F.At p)) e.1.0 ∙ sym (printed-at (At e.0) e.0 refl))
reach_step (Reach-F.Field n) =
    subst IsSameReach (sym (rolls-Field n)) (ap printed_reach (without-field n) ∙ printed-field (Field (name_without n)) (name_without n) refl ∙ sym (printed-field (Field n) n refl))

domain_step : (y : Domain-F D F R B E L) → IsSameDomain (roll-Domain (map-Domain D F R B E L Domain Form Reach Branch Expr Link (λ z. z.0) (λ z. z.0) (λ z. z.0) (λ z. z.0) (λ z. z.0) (λ z. z.0) y))
domain_step (Domain-F.Bounds a b) =
    subst IsSameDomain (sym (rolls-Bounds a.0 b.0))
    (ap printed_domain (without-bounds a.0 b.0) ∙ printed-bounds (Bounds (expression_without a.0) (expression_without b.0)) (expression_without a.0) (expression_without b.0) refl
    ∙ ap (λ p. domain_text (Domain-F.Bounds p (printed (expression_without b.0)))) a.1.0 ∙ ap (λ p. domain_text (Domain-F.Bounds (printed a.0) p)) b.1.0 ∙ sym (printed-bounds (Bounds a.0 b.0) a.0 b.0 refl))
domain_step Domain-F.Bool = subst IsSameDomain (sym rolls-Bool) (ap printed_domain without-bool)
domain_step (Domain-F.Named n) =
    subst IsSameDomain (sym (rolls-Named n)) (ap printed_domain (without-named n) ∙ printed-named (Named (name_without n)) (name_without n) refl ∙ sym (printed-named (Named n) n refl))

pub same_without : (e : Expr) → IsSame e
same_without = ind-Expr IsSameDomain IsSameForm IsSameReach IsSameBranch IsSame IsSameLink
    (λ x y is. subst (λ z. IsSameDomain (roll-Domain z)) is (domain_step y))
    (λ x y is. subst (λ z. IsSameForm (roll-Form z)) is (form_step y))
    (λ x y is. subst (λ z. IsSameReach (roll-Reach z)) is (reach_step y))
    (λ x y is. subst (λ z. IsSameBranch (roll-Branch z)) is (λ i. (plainly (y.when.1.0 i), plainly (y.gives.1.0 i))))
    (λ x y is. subst (λ z. IsSame (roll-Expr z)) is (y.form.1 y.at))
    (λ x y is. subst (λ z. IsSameLink (roll-Link z)) is (λ i. (y.op, at_level (suc (chain_level (precedence_of y.op))) (y.with.1.0 i))))
