-- A measure of Boolean expressions: the operands weigh less than the expression.
use Rattle.std.proofs.Common.{◌≡◌, ℕ, zero, suc, ◌<◌, ◌+◌, get_or, List, [], ◌∷◌, length, map, refl, arith, ap, ◌∙◌}
use Rattle.hll_tree.specs.declared.tree.Expr.{Expr, fold-Expr, fold_out-Expr}
use Rattle.hll_tree.specs.declared.tree.Form.{Form, Form-F, Chain, Not, fold-Form, fold_out-Form}
use Rattle.hll_tree.specs.declared.tree.Form.TheVariants.{outs-Chain, outs-Not}
use Rattle.hll_tree.specs.declared.tree.Link.{Link, fold_out-Link}

abbrev total : List ℕ → ℕ
total [] = 0
total (x ∷ xs) = x + total xs

-- a form, by its parts: one more than its operands together
abbrev heavier : Form-F ℕ ℕ ℕ ℕ ℕ ℕ → ℕ
heavier (Form-F.Number n) = 0
heavier (Form-F.Truth x) = 0
heavier (Form-F.Path name reaches) = 0
heavier (Form-F.Chain first links) = first + total links + 1
heavier (Form-F.Compare c a b) = 0
heavier (Form-F.Minus x) = 0
heavier (Form-F.Not x) = x + 1
heavier (Form-F.Choice branches x) = 0
heavier (Form-F.Group xs) = 0
heavier (Form-F.Quant q n d x) = 0
heavier (Form-F.Pre x first) = 0
heavier (Form-F.Least xs) = 0
heavier (Form-F.Greatest xs) = 0
heavier (Form-F.Size x) = 0
heavier Form-F.Starting = 0
heavier (Form-F.Within x i) = 0

pub weight : Expr → ℕ
weight = fold-Expr ℕ ℕ ℕ ℕ ℕ ℕ (λ d. 0) heavier (λ r. 0) (λ b. 0) (λ e. e.form) (λ link. link.with)

weight_of_form : Form → ℕ
weight_of_form = fold-Form ℕ ℕ ℕ ℕ ℕ ℕ (λ d. 0) heavier (λ r. 0) (λ b. 0) (λ e. e.form) (λ link. link.with)

weight-form : (e : Expr) (f : Form) → e.form ≡ f → weight e ≡ weight_of_form f
unfolding weight weight_of_form
weight-form e f is = fold_out-Expr _ _ _ _ _ _ _ _ _ _ _ _ e ∙ ap weight_of_form is

weight-not : (e inner : Expr) → e.form ≡ Not inner → weight e ≡ weight inner + 1
unfolding weight weight_of_form
weight-not e inner is = weight-form e _ is ∙ fold_out-Form _ _ _ _ _ _ _ _ _ _ _ _ (Not inner) ∙ rw (outs-Not inner) refl

weight-chain : (e first : Expr) (links : List Link) → e.form ≡ Chain first links → weight e ≡ weight first + total (map (λ l. weight l.with) links) + 1
unfolding weight weight_of_form
weight-chain e first links is =
    weight-form e _ is ∙ fold_out-Form _ _ _ _ _ _ _ _ _ _ _ _ (Chain first links)
    ∙ rw (outs-Chain first links)
    (λ i. weight first + total (map (λ link. fold_out-Link _ _ _ _ _ _ (λ d. 0) heavier (λ r. 0) (λ b. 0) (λ e. e.form) (λ link. link.with) link i) links) + 1)

pub inner_lighter : (e inner : Expr) → e.form ≡ Not inner → weight inner < weight e
inner_lighter e inner is = let whole = weight-not e inner is in omega arith

pub first_lighter : (e first : Expr) (links : List Link) → e.form ≡ Chain first links → weight first < weight e
first_lighter e first links is = let whole = weight-chain e first links is in omega arith

among : (links : List Link) (i : ℕ) (link : Link) → i < length links → link ≡ get_or links i link → weight link.with < total (map (λ l. weight l.with) links) + 1
among [] i link within is = absurd (omega arith)
among (l ∷ ls) zero link within is = let same = ap (λ (x : Link). weight x.with) is in omega arith
among (l ∷ ls) (suc i) link within is = let later = among ls i link (omega arith) is in omega arith

pub link_lighter : (e first : Expr) (links : List Link) (i : ℕ) (link : Link) → e.form ≡ Chain first links → i < length links → link ≡ get_or links i link → weight link.with < weight e
link_lighter e first links i link is within item =
    let whole = weight-chain e first links is in
    let part = among links i link within item in
    omega arith
