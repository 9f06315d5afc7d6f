-- How tightly an expression holds together, form by form.
use Rattle.std.proofs.Common.{◌≡◌, ℕ, ℤ, Bool, Option, List, map, ap}
use Rattle.intervals.specs.declared.interval.Interval.{Interval}
use Rattle.hll_tree.specs.declared.tree.Branch.{Branch}
use Rattle.hll_tree.specs.declared.tree.Cmp.{Cmp}
use Rattle.hll_tree.specs.declared.tree.Domain.{Domain}
use Rattle.hll_tree.specs.declared.tree.Expr.{Expr}
use Rattle.hll_tree.specs.declared.tree.Form.{Number, Truth, Path, Chain, Compare, Minus, Not, Choice, Group, Quant as Quantified, Pre, Least, Greatest, Size, Starting, Within}
use Rattle.hll_tree.specs.declared.tree.Link.{Link}
use Rattle.hll_tree.specs.declared.tree.Name.{Name}
use Rattle.hll_tree.specs.declared.tree.Quant.{Quant}
use Rattle.hll_tree.specs.declared.tree.Reach.{Reach}
use Rattle.hll_tree.specs.Printing.{Printed, printed, operand_level, comparison_level, loosest, links_level}
use Rattle.hll_tree.specs.PrintedParts.{printed_link}
use Rattle.hll_tree.proofs.Printed.{printed-number, printed-truth, printed-path, printed-chain, printed-compare, printed-minus, printed-not, printed-choice, printed-group, printed-quant, printed-pre, printed-least, printed-greatest, printed-size, printed-within, printed-starting}

-- the level of what is printed
level_of : Printed → ℕ
level_of p = p.level

pub level_number : (e : Expr) (n : ℤ) → e.form ≡ Number n → (printed e).level ≡ operand_level
unfolding level_of
level_number e n is = ap level_of (printed-number e n is)

pub level_truth : (e : Expr) (b : Bool) → e.form ≡ Truth b → (printed e).level ≡ operand_level
unfolding level_of
level_truth e b is = ap level_of (printed-truth e b is)

pub level_path : (e : Expr) (n : Name) (rs : List Reach) → e.form ≡ Path n rs → (printed e).level ≡ operand_level
unfolding level_of
level_path e n rs is = ap level_of (printed-path e n rs is)

pub level_chain : (e : Expr) (first : Expr) (links : List Link) → e.form ≡ Chain first links → (printed e).level ≡ links_level (map printed_link links)
unfolding level_of
level_chain e first links is = ap level_of (printed-chain e first links is)

pub level_compare : (e : Expr) (c : Cmp) (a b : Expr) → e.form ≡ Compare c a b → (printed e).level ≡ comparison_level
unfolding level_of
level_compare e c a b is = ap level_of (printed-compare e c a b is)

pub level_minus : (e : Expr) (x : Expr) → e.form ≡ Minus x → (printed e).level ≡ operand_level
unfolding level_of
level_minus e x is = ap level_of (printed-minus e x is)

pub level_not : (e : Expr) (x : Expr) → e.form ≡ Not x → (printed e).level ≡ operand_level
unfolding level_of
level_not e x is = ap level_of (printed-not e x is)

pub level_choice : (e : Expr) (branches : List Branch) (x : Expr) → e.form ≡ Choice branches x → (printed e).level ≡ loosest
unfolding level_of
level_choice e branches x is = ap level_of (printed-choice e branches x is)

pub level_group : (e : Expr) (xs : List Expr) → e.form ≡ Group xs → (printed e).level ≡ operand_level
unfolding level_of
level_group e xs is = ap level_of (printed-group e xs is)

pub level_quant : (e : Expr) (q : Quant) (n : Name) (d : Domain) (x : Expr) → e.form ≡ Quantified q n d x → (printed e).level ≡ operand_level
unfolding level_of
level_quant e q n d x is = ap level_of (printed-quant e q n d x is)

pub level_pre : (e : Expr) (x : Expr) (first : Option Expr) → e.form ≡ Pre x first → (printed e).level ≡ operand_level
unfolding level_of
level_pre e x first is = ap level_of (printed-pre e x first is)

pub level_least : (e : Expr) (xs : List Expr) → e.form ≡ Least xs → (printed e).level ≡ operand_level
unfolding level_of
level_least e xs is = ap level_of (printed-least e xs is)

pub level_greatest : (e : Expr) (xs : List Expr) → e.form ≡ Greatest xs → (printed e).level ≡ operand_level
unfolding level_of
level_greatest e xs is = ap level_of (printed-greatest e xs is)

pub level_size : (e : Expr) (x : Expr) → e.form ≡ Size x → (printed e).level ≡ operand_level
unfolding level_of
level_size e x is = ap level_of (printed-size e x is)

pub level_within : (e : Expr) (x : Expr) (i : Interval) → e.form ≡ Within x i → (printed e).level ≡ operand_level
unfolding level_of
level_within e x i is = ap level_of (printed-within e x i is)

pub level_starting : (e : Expr) → e.form ≡ Starting → (printed e).level ≡ operand_level
unfolding level_of
level_starting e is = ap level_of (printed-starting e is)
