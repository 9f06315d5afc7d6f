-- Expressions in which each chain has a link, as all that tokens spell have.
use Rattle.std.specs.Prelude.{Bool, true, false, ◌&&◌, Some, None, List, [], ◌∷◌}
use Rattle.std.specs.List.{list_all}
use Rattle.hll_tree.specs.declared.tree.Domain.{Domain-F}
use Rattle.hll_tree.specs.declared.tree.Expr.{Expr, fold-Expr}
use Rattle.hll_tree.specs.declared.tree.Form.{Form-F}
use Rattle.hll_tree.specs.declared.tree.Reach.{Reach-F}

-- there is a link
abbrev pub has_link : List Bool → Bool
has_link [] = false
has_link (l ∷ ls) = true

-- all of them are so
abbrev pub all_linked : List Bool → Bool
all_linked bs = list_all (λ b. b) bs

-- a form
abbrev pub form_of_linked : Form-F Bool Bool Bool Bool Bool Bool → Bool
form_of_linked (Form-F.Number n) = true
form_of_linked (Form-F.Truth b) = true
form_of_linked (Form-F.Path n steps) = all_linked steps
form_of_linked (Form-F.Chain e links) = e && has_link links && all_linked links
form_of_linked (Form-F.Compare o a b) = a && b
form_of_linked (Form-F.Minus e) = e
form_of_linked (Form-F.Not e) = e
form_of_linked (Form-F.Choice branches e) = all_linked branches && e
form_of_linked (Form-F.Group es) = all_linked es
form_of_linked (Form-F.Quant q n d e) = d && e
form_of_linked (Form-F.Pre e None) = e
form_of_linked (Form-F.Pre e (Some first)) = e && first
form_of_linked (Form-F.Least es) = all_linked es
form_of_linked (Form-F.Greatest es) = all_linked es
form_of_linked (Form-F.Size e) = e
form_of_linked Form-F.Starting = true
form_of_linked (Form-F.Within e i) = e

-- a domain
abbrev pub domain_of_linked : Domain-F Bool Bool Bool Bool Bool Bool → Bool
domain_of_linked (Domain-F.Bounds a b) = a && b
domain_of_linked Domain-F.Bool = true
domain_of_linked (Domain-F.Named n) = true

-- a step of a path
abbrev pub reach_of_linked : Reach-F Bool Bool Bool Bool Bool Bool → Bool
reach_of_linked (Reach-F.At e) = e
reach_of_linked (Reach-F.Field n) = true

-- each chain in an expression has a link
unfoldable pub linked : Expr → Bool
linked = fold-Expr Bool Bool Bool Bool Bool Bool domain_of_linked form_of_linked reach_of_linked (λ b. b.when && b.gives) (λ e. e.form) (λ link. link.with)
