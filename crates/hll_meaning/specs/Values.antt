-- What an expression is worth at an instant of a history.
use Rattle.std.specs.Prelude.{ℕ, zero, suc, ◌==◌, ◌+◌, ℤ, pos, neg_ℤ, ◌+ℤ◌, ◌-ℤ◌, ◌*ℤ◌, int_lt, int_le, int_div, int_rem, Bool, true, false, not, ◌&&◌, ◌||◌, List, [], ◌∷◌, map, fold, Option, Some, None, option_map, unwrap_or, unsigned_abs, if◌then◌else◌}
use Rattle.std.specs.Int.{int_min, int_max}
use Rattle.std.specs.Ordering.{int_eq}
use Rattle.std.specs.List.{flat_map, list_all, list_any, range_with_len, slice_index_or}
use Rattle.std.specs.Str.{bytes_eq}
use Rattle.hll_tree.specs.declared.tree.Cmp.{Cmp}
use Rattle.hll_tree.specs.declared.tree.Cmp.TheVariants as cmp
use Rattle.hll_tree.specs.declared.tree.Domain.{Domain-F}
use Rattle.hll_tree.specs.declared.tree.Expr.{Expr, fold-Expr}
use Rattle.hll_tree.specs.declared.tree.Form.{Form-F}
use Rattle.hll_tree.specs.declared.tree.Op.{Op}
use Rattle.hll_tree.specs.declared.tree.Op.TheVariants as op
use Rattle.hll_tree.specs.declared.tree.Quant.{Quant}
use Rattle.hll_tree.specs.declared.tree.Quant.TheVariants as quant
use Rattle.hll_tree.specs.declared.tree.Reach.{Reach-F}
use Rattle.intervals.specs.Ends.{Ends}
use Rattle.hll_meaning.specs.Kinds.{Value, Typed, Step, index, name, truths, is_in, ranges, steps_into}
use Rattle.hll_meaning.specs.Names.{Thing, constant, type_of, code_in, variable, later, Names, under}

-- ---- where an expression stands

-- a value for each variable, in text order
abbrev pub Instant : Type 0
Instant = List Value

-- instants one after the other, from time 0 on
abbrev pub History : Type 0
History = List Instant

-- what names stand for, the history, the time, and the numbers of bound and index names, the innermost first
pub record Scene : Type 0 where
  pub names : Names
  pub history : History
  pub time : ℕ
  pub bound : List (List ℕ × ℤ)

-- the value of a variable at an instant, with its kind
abbrev pub variable_in : Names → Instant → List ℕ → Option Typed
variable_in [] values sought = None
variable_in ((own, constant b x) ∷ names) values sought = variable_in names values sought
variable_in ((own, type_of k) ∷ names) values sought = variable_in names values sought
variable_in ((own, code_in root c) ∷ names) values sought = variable_in names values sought
variable_in ((own, variable input k) ∷ names) [] sought = None
variable_in ((own, variable input k) ∷ names) (v ∷ vs) sought = if bytes_eq own sought then Some (record { kind = k; value = v }) else variable_in names vs sought
variable_in ((own, later) ∷ names) values sought = variable_in names values sought

-- ---- scalars

-- a number as a value
abbrev pub of_number : ℤ → Value
of_number x = x ∷ []

-- a truth value as a value
abbrev pub of_truth : Bool → Value
of_truth true = pos 1 ∷ []
of_truth false = pos 0 ∷ []

-- the number of a scalar
abbrev pub number : Value → ℤ
number [] = pos 0
number (x ∷ xs) = x

-- whether a truth value is true
abbrev pub is_true : Value → Bool
is_true v = not (int_eq (number v) (pos 0))

-- ---- operators

-- two operands; division truncates toward zero, a remainder has the sign of the dividend, and by 0 they are 0 and the dividend
abbrev pub operated : Op → Value → Value → Value
operated op.Same v w = of_truth (int_eq (number v) (number w))
operated op.Differ v w = of_truth (not (int_eq (number v) (number w)))
operated op.Implies v w = of_truth (not (is_true v) || is_true w)
operated op.Or v w = of_truth (is_true v || is_true w)
operated op.And v w = of_truth (is_true v && is_true w)
operated op.Plus v w = of_number (number v +ℤ number w)
operated op.Less v w = of_number (number v -ℤ number w)
operated op.Times v w = of_number (number v *ℤ number w)
operated op.Over v w = of_number (int_div (number v) (number w))
operated op.Rest v w = of_number (int_rem (number v) (number w))

-- a chain from the left
abbrev pub from_the_left : Value → List (Op × Value) → Value
from_the_left v [] = v
from_the_left v (link ∷ links) = from_the_left (operated link.0 v link.1) links

-- a chain from the right
abbrev pub from_the_right : Value → List (Op × Value) → Value
from_the_right v [] = v
from_the_right v (link ∷ links) = operated link.0 v (from_the_right link.1 links)

-- a chain: of `->` from the right, of all other operators from the left
abbrev pub chained : Value → List (Op × Value) → Value
chained v [] = v
chained v ((op.Implies, w) ∷ links) = from_the_right v ((op.Implies, w) ∷ links)
chained v ((op.Same, w) ∷ links) = from_the_left v ((op.Same, w) ∷ links)
chained v ((op.Differ, w) ∷ links) = from_the_left v ((op.Differ, w) ∷ links)
chained v ((op.Or, w) ∷ links) = from_the_left v ((op.Or, w) ∷ links)
chained v ((op.And, w) ∷ links) = from_the_left v ((op.And, w) ∷ links)
chained v ((op.Plus, w) ∷ links) = from_the_left v ((op.Plus, w) ∷ links)
chained v ((op.Less, w) ∷ links) = from_the_left v ((op.Less, w) ∷ links)
chained v ((op.Times, w) ∷ links) = from_the_left v ((op.Times, w) ∷ links)
chained v ((op.Over, w) ∷ links) = from_the_left v ((op.Over, w) ∷ links)
chained v ((op.Rest, w) ∷ links) = from_the_left v ((op.Rest, w) ∷ links)

-- a comparison
abbrev pub compared : Cmp → ℤ → ℤ → Bool
compared cmp.Eq x y = int_eq x y
compared cmp.Ne x y = not (int_eq x y)
compared cmp.Lt x y = int_lt x y
compared cmp.Le x y = int_le x y
compared cmp.Gt x y = int_lt y x
compared cmp.Ge x y = int_le y x

-- the least of a first number and further ones
abbrev pub least : List Value → ℤ
least [] = pos 0
least (v ∷ vs) = fold (λ x w. int_min x (number w)) (number v) vs

-- the greatest of a first number and further ones
abbrev pub greatest : List Value → ℤ
greatest [] = pos 0
greatest (v ∷ vs) = fold (λ x w. int_max x (number w)) (number v) vs

-- what a quantifier makes of the values over its domain
abbrev pub quantified_value : Quant → List Value → Value
quantified_value quant.All vs = of_truth (list_all is_true vs)
quantified_value quant.Any vs = of_truth (list_any is_true vs)
quantified_value quant.Sum vs = of_number (fold (λ x v. x +ℤ number v) (pos 0) vs)

-- ---- expressions

-- a thing that depends on where it stands
abbrev pub In : Type 0 → Type 0
In A = Scene → A

-- the first branch whose condition is true, and else what stands behind `else`
abbrev pub chosen : List (In Value × In Value) → In Value → In Value
chosen [] otherwise s = otherwise s
chosen (b ∷ bs) otherwise s = if is_true (b.0 s) then b.1 s else chosen bs otherwise s

-- the instant before; there is none before time 0
abbrev pub earlier : In Value → In (Option Value) → In Value
earlier now first s = at_time s.time
  where
    at_time : ℕ → Value
    at_time zero = unwrap_or (first s) []
    at_time (suc t) = now (record s { time = t })

-- the value of what a name stands for, with what is reached through it
abbrev pub thing_value : List ℕ → List Step → In (Option Thing → Option Value)
thing_value sought steps s None = None
thing_value sought steps s (Some (constant b x)) = Some (of_number x)
thing_value sought steps s (Some (type_of k)) = None
thing_value sought steps s (Some (code_in root c)) = Some (of_number (pos c))
thing_value sought steps s (Some (variable input k)) = option_map (λ t. t.value) (steps_into (variable_in s.names (slice_index_or s.history s.time []) sought) steps)
thing_value sought steps s (Some later) = None

-- the number of a bound or index name, and else what the name stands for
abbrev pub bound_value : Option ℤ → Option Value → Value
bound_value (Some x) other = of_number x
bound_value None other = unwrap_or other []

-- a path: a bound or index name hides what else has its name
abbrev pub path_value : List ℕ → List Step → In Value
path_value sought steps s = bound_value (under sought s.bound) (thing_value sought steps s (under sought s.names))

-- the numbers between ends, the lowest first
abbrev pub numbers : Ends → List ℤ
numbers e = if int_le e.lo e.hi then map (λ k. e.lo +ℤ pos k) (range_with_len 0 (unsigned_abs (e.hi -ℤ e.lo) + 1)) else []

-- the numbers of a domain that is named: those of a scalar type
abbrev pub named_domain : Option Thing → Ends
named_domain None = truths
named_domain (Some (constant b x)) = truths
named_domain (Some (type_of k)) = slice_index_or (ranges k) 0 truths
named_domain (Some (code_in root c)) = truths
named_domain (Some (variable input k)) = truths
named_domain (Some later) = truths

-- the numbers of a domain
abbrev pub domain_range : Domain-F (In Ends) (In Value) (In Step) (In Value × In Value) (In Value) (Op × In Value) → In Ends
domain_range (Domain-F.Bounds a b) s = record { lo = number (a s); hi = number (b s) }
domain_range Domain-F.Bool s = truths
domain_range (Domain-F.Named n) s = named_domain (under n.text s.names)

-- a step of a path
abbrev pub reach_step : Reach-F (In Ends) (In Value) (In Step) (In Value × In Value) (In Value) (Op × In Value) → In Step
reach_step (Reach-F.At e) s = index (number (e s))
reach_step (Reach-F.Field n) s = name n.text

-- a form
abbrev pub form_worth : Form-F (In Ends) (In Value) (In Step) (In Value × In Value) (In Value) (Op × In Value) → In Value
form_worth (Form-F.Number n) s = of_number n
form_worth (Form-F.Truth x) s = of_truth x
form_worth (Form-F.Path n reaches) s = path_value n.text (map (λ r. r s) reaches) s
form_worth (Form-F.Chain e links) s = chained (e s) (map (λ link. (link.0, link.1 s)) links)
form_worth (Form-F.Compare c a b) s = of_truth (compared c (number (a s)) (number (b s)))
form_worth (Form-F.Minus e) s = of_number (neg_ℤ (number (e s)))
form_worth (Form-F.Not e) s = of_truth (not (is_true (e s)))
form_worth (Form-F.Choice branches e) s = chosen branches e s
form_worth (Form-F.Group es) s = flat_map (λ e. e s) es
form_worth (Form-F.Quant q n d e) s = quantified_value q (map (λ x. e (record s { bound = (n.text, x) ∷ s.bound })) (numbers (d s)))
form_worth (Form-F.Pre e first) s = earlier e (λ at. option_map (λ f. f at) first) s
form_worth (Form-F.Least es) s = of_number (least (map (λ e. e s) es))
form_worth (Form-F.Greatest es) s = of_number (greatest (map (λ e. e s) es))
form_worth (Form-F.Size e) s = of_number (pos (unsigned_abs (number (e s))))
form_worth Form-F.Starting s = of_truth (s.time == 0)
form_worth (Form-F.Within e i) s = of_truth (is_in (record { lo = i.lo; hi = i.hi }) (number (e s)))

-- what an expression is worth where it stands
unfoldable pub worth : Expr → In Value
worth =
    fold-Expr (In Ends) (In Value) (In Step) (In Value × In Value) (In Value) (Op × In Value)
    domain_range form_worth reach_step
    (λ b. (b.when, b.gives)) (λ e. e.form) (λ link. (link.op, link.with))
