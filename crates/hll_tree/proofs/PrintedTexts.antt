-- The text of an expression, form by form.
use Rattle.std.proofs.Common.{◌≡◌, suc, ℤ, Bool, false, Option, List, [], ◌++◌, map, ap}
use Rattle.std.specs.Prelude.{codes, option_map}
use Rattle.std.specs.Fmt.{signed_decimal}
use Rattle.intervals.specs.declared.interval.Interval.{Interval}
use Rattle.hll_tree.specs.declared.tree.Branch.{Branch}
use Rattle.hll_tree.specs.declared.tree.Cmp.{Cmp}
use Rattle.hll_tree.specs.declared.tree.Domain.{Domain}
use Rattle.hll_tree.specs.declared.tree.Domain.{Domain, Bounds, Bool as DomainBool, Named}
use Rattle.hll_tree.specs.declared.tree.Expr.{Expr}
use Rattle.hll_tree.specs.declared.tree.Form.{Number, Truth, Path, Chain, Compare, Minus, Not, Choice, Group, Quant as Quantified, Pre, Least, Greatest, Size, Starting, Within}
use Rattle.hll_tree.specs.declared.tree.Link.{Link}
use Rattle.hll_tree.specs.declared.tree.Name.{Name}
use Rattle.hll_tree.specs.declared.tree.Quant.{Quant}
use Rattle.hll_tree.specs.declared.tree.Reach.{Reach}
use Rattle.hll_tree.specs.Printing.{Text, Printed, name_text, comparison_text, truth_text, at_level, plainly, list_text, reaches_text, branches_text, links_text, quantifier_text, first_value_text, printed, operand_level, comparison_level, links_level}
use Rattle.hll_tree.specs.PrintedParts.{printed_domain, printed_reach, printed_branch, printed_link}
use Rattle.hll_tree.proofs.Printed.{printed-number, printed-truth, printed-path, printed-chain, printed-compare, printed-minus, printed-not, printed-choice, printed-group, printed-quant, printed-pre, printed-least, printed-greatest, printed-size, printed-within, printed-starting, printed-bounds, printed-bool, printed-named}

-- the text of what is printed
text_of : Printed → Text
text_of p = p.text

pub text_number : (e : Expr) (n : ℤ) → e.form ≡ Number n → (printed e).text ≡ signed_decimal n
unfolding text_of
text_number e n is = ap text_of (printed-number e n is)

pub text_truth : (e : Expr) (b : Bool) → e.form ≡ Truth b → (printed e).text ≡ truth_text b
unfolding text_of
text_truth e b is = ap text_of (printed-truth e b is)

pub text_path : (e : Expr) (n : Name) (rs : List Reach) → e.form ≡ Path n rs → (printed e).text ≡ name_text n.text ++ reaches_text false (map printed_reach rs)
unfolding text_of
text_path e n rs is = ap text_of (printed-path e n rs is)

pub text_chain : (e : Expr) (first : Expr) (links : List Link) → e.form ≡ Chain first links → (printed e).text ≡ at_level (suc (links_level (map printed_link links))) (printed first) ++ links_text (map printed_link links)
unfolding text_of
text_chain e first links is = ap text_of (printed-chain e first links is)

pub text_compare : (e : Expr) (c : Cmp) (a b : Expr) → e.form ≡ Compare c a b → (printed e).text ≡ at_level (suc comparison_level) (printed a) ++ codes " " ++ comparison_text c ++ codes " " ++ at_level (suc comparison_level) (printed b)
unfolding text_of
text_compare e c a b is = ap text_of (printed-compare e c a b is)

pub text_minus : (e : Expr) (x : Expr) → e.form ≡ Minus x → (printed e).text ≡ codes "-" ++ at_level operand_level (printed x)
unfolding text_of
text_minus e x is = ap text_of (printed-minus e x is)

pub text_not : (e : Expr) (x : Expr) → e.form ≡ Not x → (printed e).text ≡ codes "~" ++ at_level operand_level (printed x)
unfolding text_of
text_not e x is = ap text_of (printed-not e x is)

pub text_choice : (e : Expr) (branches : List Branch) (x : Expr) → e.form ≡ Choice branches x → (printed e).text ≡ codes "if " ++ branches_text (map printed_branch branches) ++ codes " else " ++ plainly (printed x)
unfolding text_of
text_choice e branches x is = ap text_of (printed-choice e branches x is)

pub text_group : (e : Expr) (xs : List Expr) → e.form ≡ Group xs → (printed e).text ≡ codes "{" ++ list_text (map printed xs) ++ codes "}"
unfolding text_of
text_group e xs is = ap text_of (printed-group e xs is)

pub text_quant : (e : Expr) (q : Quant) (n : Name) (d : Domain) (x : Expr) → e.form ≡ Quantified q n d x → (printed e).text ≡ quantifier_text q ++ codes " " ++ name_text n.text ++ codes " : " ++ printed_domain d ++ codes " (" ++ plainly (printed x) ++ codes ")"
unfolding text_of
text_quant e q n d x is = ap text_of (printed-quant e q n d x is)

pub text_pre : (e : Expr) (x : Expr) (first : Option Expr) → e.form ≡ Pre x first → (printed e).text ≡ codes "pre(" ++ plainly (printed x) ++ first_value_text (option_map printed first) ++ codes ")"
unfolding text_of
text_pre e x first is = ap text_of (printed-pre e x first is)

pub text_least : (e : Expr) (xs : List Expr) → e.form ≡ Least xs → (printed e).text ≡ codes "$min(" ++ list_text (map printed xs) ++ codes ")"
unfolding text_of
text_least e xs is = ap text_of (printed-least e xs is)

pub text_greatest : (e : Expr) (xs : List Expr) → e.form ≡ Greatest xs → (printed e).text ≡ codes "$max(" ++ list_text (map printed xs) ++ codes ")"
unfolding text_of
text_greatest e xs is = ap text_of (printed-greatest e xs is)

pub text_size : (e : Expr) (x : Expr) → e.form ≡ Size x → (printed e).text ≡ codes "$abs(" ++ plainly (printed x) ++ codes ")"
unfolding text_of
text_size e x is = ap text_of (printed-size e x is)

pub text_within : (e : Expr) (x : Expr) (i : Interval) → e.form ≡ Within x i → (printed e).text ≡ []
unfolding text_of
text_within e x i is = ap text_of (printed-within e x i is)

pub text_starting : (e : Expr) → e.form ≡ Starting → (printed e).text ≡ []
unfolding text_of
text_starting e is = ap text_of (printed-starting e is)

pub domain_bounds : (d : Domain) (a b : Expr) → d ≡ Bounds a b → printed_domain d ≡ codes "[" ++ plainly (printed a) ++ codes ", " ++ plainly (printed b) ++ codes "]"
domain_bounds d a b is = printed-bounds d a b is

pub domain_bool : (d : Domain) → d ≡ DomainBool → printed_domain d ≡ codes "bool"
domain_bool d is = printed-bool d is

pub domain_named : (d : Domain) (n : Name) → d ≡ Named n → printed_domain d ≡ name_text n.text
domain_named d n is = printed-named d n is
