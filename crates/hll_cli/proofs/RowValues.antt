-- The value of an expression in a row, and whether it is Boolean, form by form.
use Rattle.std.proofs.Common.{◌≡◌, ℕ, ℤ, Bool, true, false, not, Option, ◌&&◌, List, [], ◌∷◌, ◌++◌, map, refl, ap, ◌∙◌}
use Rattle.std.specs.List.{list_all, flat_map}
use Rattle.hll_tree.specs.declared.tree.Expr.{Expr, fold_out-Expr}
use Rattle.intervals.specs.declared.interval.Interval.{Interval}
use Rattle.hll_tree.specs.declared.tree.Branch.{Branch}
use Rattle.hll_tree.specs.declared.tree.Cmp.{Cmp}
use Rattle.hll_tree.specs.declared.tree.Domain.{Domain}
use Rattle.hll_tree.specs.declared.tree.Form.{Form, Number, Truth, Path, Chain, Compare, Minus, Not, Choice, Group, Quant as Quantified, Pre, Least, Greatest, Size, Starting, Within, fold-Form, fold_out-Form}
use Rattle.hll_tree.specs.declared.tree.Form.TheVariants.{outs-Number, outs-Truth, outs-Path, outs-Chain, outs-Compare, outs-Minus, outs-Not, outs-Choice, outs-Group, outs-Quant, outs-Pre, outs-Least, outs-Greatest, outs-Size, outs-Starting, outs-Within}
use Rattle.hll_tree.specs.declared.tree.Link.{Link, fold_out-Link}
use Rattle.hll_tree.specs.declared.tree.Name.{Name}
use Rattle.hll_tree.specs.declared.tree.Quant.{Quant}
use Rattle.hll_tree.specs.declared.tree.Reach.{Reach}
use Rattle.hll_tree.specs.declared.tree.Op.{Op}
use Rattle.hll_cli.specs.Accepted.{is_boolean_link}
use Rattle.hll_cli.specs.BooleanTexts.{is_boolean, is_boolean_form, is_boolean_op, form_names, names_in}
use Rattle.hll_cli.specs.Table.{form_value, value_in, chain_value}

-- an operator beside the value of its right operand
abbrev pub link_value : (List ℕ → Bool) → Link → Op × Bool
link_value look link = (link.op, value_in look link.with)

-- the value of a form, as that of an expression has it
value_of_form : (List ℕ → Bool) → Form → Bool
value_of_form look = fold-Form Bool Bool Bool Bool Bool (Op × Bool) (λ d. false) (form_value look) (λ r. false) (λ b. false) (λ e. e.form) (λ link. (link.op, link.with))

value_in-form : (look : List ℕ → Bool) (e : Expr) (f : Form) → e.form ≡ f → value_in look e ≡ value_of_form look f
unfolding value_in value_of_form
value_in-form look e f is = fold_out-Expr _ _ _ _ _ _ _ _ _ _ _ _ e ∙ ap (value_of_form look) is

pub value_in-truth : (look : List ℕ → Bool) (e : Expr) (b : Bool) → e.form ≡ Truth b → value_in look e ≡ b
unfolding value_of_form
value_in-truth look e b is = value_in-form look e _ is ∙ fold_out-Form _ _ _ _ _ _ _ _ _ _ _ _ (Truth b) ∙ rw (outs-Truth b) refl

pub value_in-path : (look : List ℕ → Bool) (e : Expr) (name : Name) (reaches : List Reach) → e.form ≡ Path name reaches → value_in look e ≡ look name.text
unfolding value_of_form
value_in-path look e name reaches is = value_in-form look e _ is ∙ fold_out-Form _ _ _ _ _ _ _ _ _ _ _ _ (Path name reaches) ∙ rw (outs-Path name reaches) refl

pub value_in-not : (look : List ℕ → Bool) (e inner : Expr) → e.form ≡ Not inner → value_in look e ≡ not (value_in look inner)
unfolding value_in value_of_form
value_in-not look e inner is = value_in-form look e _ is ∙ fold_out-Form _ _ _ _ _ _ _ _ _ _ _ _ (Not inner) ∙ rw (outs-Not inner) refl

pub value_in-chain : (look : List ℕ → Bool) (e first : Expr) (links : List Link) → e.form ≡ Chain first links →
    value_in look e ≡ chain_value (value_in look first) (map (link_value look) links)
unfolding value_in value_of_form
value_in-chain look e first links is = value_in-form look e _ is ∙ fold_out-Form _ _ _ _ _ _ _ _ _ _ _ _ (Chain first links)
    ∙ rw (outs-Chain first links)
    (λ i. chain_value (value_in look first) (map (λ link. fold_out-Link _ _ _ _ _ _ (λ d. false) (form_value look) (λ r. false) (λ b. false) (λ e. e.form) (λ link. (link.op, link.with)) link i) links))

-- whether a form is Boolean, as an expression has it
is_boolean_of_form : Form → Bool
is_boolean_of_form = fold-Form Bool Bool Bool Bool Bool Bool (λ d. false) is_boolean_form (λ r. false) (λ b. false) (λ e. e.form) (λ link. is_boolean_op link.op && link.with)

is_boolean-form : (e : Expr) (f : Form) → e.form ≡ f → is_boolean e ≡ is_boolean_of_form f
unfolding is_boolean is_boolean_of_form
is_boolean-form e f is = fold_out-Expr _ _ _ _ _ _ _ _ _ _ _ _ e ∙ ap (is_boolean_of_form) is

pub is_boolean-number : (e : Expr) (n : ℤ) → e.form ≡ Number n → is_boolean e ≡ false
unfolding is_boolean is_boolean_of_form
is_boolean-number e n is = is_boolean-form e _ is ∙ fold_out-Form _ _ _ _ _ _ _ _ _ _ _ _ (Number n) ∙ rw (outs-Number n) refl

pub is_boolean-truth : (e : Expr) (b : Bool) → e.form ≡ Truth b → is_boolean e ≡ true
unfolding is_boolean is_boolean_of_form
is_boolean-truth e b is = is_boolean-form e _ is ∙ fold_out-Form _ _ _ _ _ _ _ _ _ _ _ _ (Truth b) ∙ rw (outs-Truth b) refl

pub is_boolean-path : (e : Expr) (name : Name) → e.form ≡ Path name [] → is_boolean e ≡ true
unfolding is_boolean_of_form
is_boolean-path e name is = is_boolean-form e _ is ∙ fold_out-Form _ _ _ _ _ _ _ _ _ _ _ _ (Path name []) ∙ rw (outs-Path name []) refl

pub is_boolean-reaching : (e : Expr) (name : Name) (r : Reach) (rs : List Reach) → e.form ≡ Path name (r ∷ rs) → is_boolean e ≡ false
unfolding is_boolean_of_form
is_boolean-reaching e name r rs is = is_boolean-form e _ is ∙ fold_out-Form _ _ _ _ _ _ _ _ _ _ _ _ (Path name (r ∷ rs)) ∙ rw (outs-Path name (r ∷ rs)) refl

pub is_boolean-compare : (e : Expr) (c : Cmp) (a b : Expr) → e.form ≡ Compare c a b → is_boolean e ≡ false
unfolding is_boolean is_boolean_of_form
is_boolean-compare e c a b is = is_boolean-form e _ is ∙ fold_out-Form _ _ _ _ _ _ _ _ _ _ _ _ (Compare c a b) ∙ rw (outs-Compare c a b) refl

pub is_boolean-minus : (e : Expr) (x : Expr) → e.form ≡ Minus x → is_boolean e ≡ false
unfolding is_boolean is_boolean_of_form
is_boolean-minus e x is = is_boolean-form e _ is ∙ fold_out-Form _ _ _ _ _ _ _ _ _ _ _ _ (Minus x) ∙ rw (outs-Minus x) refl

pub is_boolean-not : (e : Expr) (x : Expr) → e.form ≡ Not x → is_boolean e ≡ (is_boolean x)
unfolding is_boolean is_boolean_of_form
is_boolean-not e x is = is_boolean-form e _ is ∙ fold_out-Form _ _ _ _ _ _ _ _ _ _ _ _ (Not x) ∙ rw (outs-Not x) refl

pub is_boolean-choice : (e : Expr) (branches : List Branch) (x : Expr) → e.form ≡ Choice branches x → is_boolean e ≡ false
unfolding is_boolean is_boolean_of_form
is_boolean-choice e branches x is = is_boolean-form e _ is ∙ fold_out-Form _ _ _ _ _ _ _ _ _ _ _ _ (Choice branches x) ∙ rw (outs-Choice branches x) refl

pub is_boolean-group : (e : Expr) (xs : List Expr) → e.form ≡ Group xs → is_boolean e ≡ false
unfolding is_boolean is_boolean_of_form
is_boolean-group e xs is = is_boolean-form e _ is ∙ fold_out-Form _ _ _ _ _ _ _ _ _ _ _ _ (Group xs) ∙ rw (outs-Group xs) refl

pub is_boolean-quant : (e : Expr) (q : Quant) (n : Name) (d : Domain) (x : Expr) → e.form ≡ Quantified q n d x → is_boolean e ≡ false
unfolding is_boolean is_boolean_of_form
is_boolean-quant e q n d x is = is_boolean-form e _ is ∙ fold_out-Form _ _ _ _ _ _ _ _ _ _ _ _ (Quantified q n d x) ∙ rw (outs-Quant q n d x) refl

pub is_boolean-pre : (e : Expr) (x : Expr) (first : Option Expr) → e.form ≡ Pre x first → is_boolean e ≡ false
unfolding is_boolean is_boolean_of_form
is_boolean-pre e x first is = is_boolean-form e _ is ∙ fold_out-Form _ _ _ _ _ _ _ _ _ _ _ _ (Pre x first) ∙ rw (outs-Pre x first) refl

pub is_boolean-least : (e : Expr) (xs : List Expr) → e.form ≡ Least xs → is_boolean e ≡ false
unfolding is_boolean is_boolean_of_form
is_boolean-least e xs is = is_boolean-form e _ is ∙ fold_out-Form _ _ _ _ _ _ _ _ _ _ _ _ (Least xs) ∙ rw (outs-Least xs) refl

pub is_boolean-greatest : (e : Expr) (xs : List Expr) → e.form ≡ Greatest xs → is_boolean e ≡ false
unfolding is_boolean is_boolean_of_form
is_boolean-greatest e xs is = is_boolean-form e _ is ∙ fold_out-Form _ _ _ _ _ _ _ _ _ _ _ _ (Greatest xs) ∙ rw (outs-Greatest xs) refl

pub is_boolean-size : (e : Expr) (x : Expr) → e.form ≡ Size x → is_boolean e ≡ false
unfolding is_boolean is_boolean_of_form
is_boolean-size e x is = is_boolean-form e _ is ∙ fold_out-Form _ _ _ _ _ _ _ _ _ _ _ _ (Size x) ∙ rw (outs-Size x) refl

pub is_boolean-within : (e : Expr) (x : Expr) (i : Interval) → e.form ≡ Within x i → is_boolean e ≡ false
unfolding is_boolean is_boolean_of_form
is_boolean-within e x i is = is_boolean-form e _ is ∙ fold_out-Form _ _ _ _ _ _ _ _ _ _ _ _ (Within x i) ∙ rw (outs-Within x i) refl

pub is_boolean-starting : (e : Expr) → e.form ≡ Starting → is_boolean e ≡ false
unfolding is_boolean_of_form
is_boolean-starting e is = is_boolean-form e _ is ∙ fold_out-Form _ _ _ _ _ _ _ _ _ _ _ _ Starting ∙ rw outs-Starting refl

pub is_boolean-chain : (e first : Expr) (links : List Link) → e.form ≡ Chain first links →
    is_boolean e ≡ (is_boolean first && list_all (λ link. link) (map is_boolean_link links))
unfolding is_boolean is_boolean_of_form
is_boolean-chain e first links is = is_boolean-form e _ is ∙ fold_out-Form _ _ _ _ _ _ _ _ _ _ _ _ (Chain first links)
    ∙ rw (outs-Chain first links)
    (λ i. is_boolean first && list_all (λ link. link) (map (λ link. fold_out-Link _ _ _ _ _ _ (λ d. false) is_boolean_form (λ r. false) (λ b. false) (λ e. e.form) (λ link. is_boolean_op link.op && link.with) link i) links))

names_of_form : Form → List (List ℕ)
names_of_form =
    fold-Form (List (List ℕ)) (List (List ℕ)) (List (List ℕ)) (List (List ℕ)) (List (List ℕ)) (List (List ℕ))
    (λ d. []) form_names (λ r. []) (λ b. []) (λ e. e.form) (λ link. link.with)

names_in-form : (e : Expr) (f : Form) → e.form ≡ f → names_in e ≡ names_of_form f
unfolding names_in names_of_form
names_in-form e f is = fold_out-Expr _ _ _ _ _ _ _ _ _ _ _ _ e ∙ ap names_of_form is

all_names-of_map : {A B : Type 0} (f : A → B) (g : B → List (List ℕ)) (xs : List A) → flat_map g (map f xs) ≡ flat_map (λ x. g (f x)) xs
all_names-of_map f g [] = refl
all_names-of_map f g (x ∷ xs) = ap (λ ys. g (f x) ++ ys) (all_names-of_map f g xs)

pub names_in-truth : (e : Expr) (b : Bool) → e.form ≡ Truth b → names_in e ≡ []
unfolding names_of_form
names_in-truth e b is = names_in-form e _ is ∙ fold_out-Form _ _ _ _ _ _ _ _ _ _ _ _ (Truth b) ∙ rw (outs-Truth b) refl

pub names_in-path : (e : Expr) (name : Name) (reaches : List Reach) → e.form ≡ Path name reaches → names_in e ≡ name.text ∷ []
unfolding names_of_form
names_in-path e name reaches is = names_in-form e _ is ∙ fold_out-Form _ _ _ _ _ _ _ _ _ _ _ _ (Path name reaches) ∙ rw (outs-Path name reaches) refl

pub names_in-not : (e inner : Expr) → e.form ≡ Not inner → names_in e ≡ names_in inner
unfolding names_in names_of_form
names_in-not e inner is = names_in-form e _ is ∙ fold_out-Form _ _ _ _ _ _ _ _ _ _ _ _ (Not inner) ∙ rw (outs-Not inner) refl

pub names_in-chain : (e first : Expr) (links : List Link) → e.form ≡ Chain first links → names_in e ≡ names_in first ++ flat_map (λ link. names_in link.with) links
unfolding names_in names_of_form
names_in-chain e first links is = names_in-form e _ is ∙ fold_out-Form _ _ _ _ _ _ _ _ _ _ _ _ (Chain first links)
    ∙ rw (outs-Chain first links)
    (λ i. names_in first ++ flat_map (λ names. names) (map (λ link. fold_out-Link _ _ _ _ _ _ (λ d. []) form_names (λ r. []) (λ b. []) (λ e. e.form) (λ link. link.with) link i) links))
    ∙ ap (λ names. names_in first ++ names) (all_names-of_map (λ link. names_in link.with) (λ names. names) links)
