-- How a truth table decides: it has a row for each choice of the inputs' values, and a column for each expression.
use Rattle.std.specs.Prelude.{◌≡◌, ℕ, zero, suc, ◌<◌, ◌^◌, ◌%◌, ◌/◌, ◌==◌, Bool, true, false, not, ◌&&◌, ◌||◌, List, [], ◌∷◌, length, if◌then◌else◌}
use Rattle.std.specs.List.{slice_index_or}
use Rattle.std.specs.Str.{bytes_eq}
use Rattle.hll_tree.specs.declared.tree.Expr.{Expr, fold-Expr}
use Rattle.hll_tree.specs.declared.tree.Form.{Form-F}
use Rattle.hll_tree.specs.declared.tree.Op.{Op}
use Rattle.hll_tree.specs.declared.tree.Op.TheVariants as op
use Rattle.hll_cli.specs.declared.verdict.Verdict.{Verdict}
use Rattle.hll_cli.specs.declared.verdict.Verdict.TheVariants.{Proved, Falsified}

-- ---- values in a row

-- the value of an input in a row
abbrev pub value_at : List (List ℕ) → List Bool → List ℕ → Bool
value_at [] values name = false
value_at (v ∷ vs) [] name = false
value_at (v ∷ vs) (x ∷ xs) name = if bytes_eq v name then x else value_at vs xs name

-- a chain: a premise of `->` that is false makes it true, whatever follows; only Boolean operators count
abbrev pub chain_value : Bool → List (Op × Bool) → Bool
chain_value x [] = x
chain_value x ((op.Same, y) ∷ links) = false
chain_value x ((op.Differ, y) ∷ links) = false
chain_value x ((op.Implies, y) ∷ links) = not x || chain_value y links
chain_value x ((op.Or, y) ∷ links) = chain_value (x || y) links
chain_value x ((op.And, y) ∷ links) = chain_value (x && y) links
chain_value x ((op.Plus, y) ∷ links) = false
chain_value x ((op.Less, y) ∷ links) = false
chain_value x ((op.Times, y) ∷ links) = false
chain_value x ((op.Over, y) ∷ links) = false
chain_value x ((op.Rest, y) ∷ links) = false

-- a form, from the values of its parts and of the inputs; only Boolean forms count
abbrev pub form_value : (List ℕ → Bool) → Form-F Bool Bool Bool Bool Bool (Op × Bool) → Bool
form_value look (Form-F.Number n) = false
form_value look (Form-F.Truth x) = x
form_value look (Form-F.Path name reaches) = look name.text
form_value look (Form-F.Chain first links) = chain_value first links
form_value look (Form-F.Compare c a b) = false
form_value look (Form-F.Minus x) = false
form_value look (Form-F.Not x) = not x
form_value look (Form-F.Choice branches x) = false
form_value look (Form-F.Group xs) = false
form_value look (Form-F.Quant q n d x) = false
form_value look (Form-F.Pre x first) = false
form_value look (Form-F.Least xs) = false
form_value look (Form-F.Greatest xs) = false
form_value look (Form-F.Size x) = false
form_value look Form-F.Starting = false
form_value look (Form-F.Within x i) = false

-- an expression, from the values of the inputs
unfoldable pub value_in : (List ℕ → Bool) → Expr → Bool
value_in look =
    fold-Expr Bool Bool Bool Bool Bool (Op × Bool)
    (λ d. false) (form_value look) (λ r. false) (λ b. false) (λ e. e.form) (λ link. (link.op, link.with))

-- ---- the table

-- the row of this number: a value for each of n inputs, by its binary digits, the lowest first
abbrev pub row : ℕ → ℕ → List Bool
row zero k = []
row (suc n) k = (k % 2 == 1) ∷ row n (k / 2)

-- the column of an expression has its value at each row
pub record IsColumn (names : List (List ℕ)) (e : Expr) (column : List Bool) : Type 0 where
  pub whole : length column ≡ 2 ^ length names
  pub each : (k : ℕ) → k < 2 ^ length names → slice_index_or column k false ≡ value_in (value_at names (row (length names) k)) e

-- ---- verdicts

-- proved: it is true in every row; falsified: the trace is one row, in which it is false
abbrev pub IsDecidedBy : List (List ℕ) → Expr → Verdict → Type 0
IsDecidedBy names e (Proved k) = (k ≡ 1) × ((values : List Bool) → length values ≡ length names → value_in (value_at names values) e ≡ true)
IsDecidedBy names e (Falsified trace) =
    (values : List Bool) × (trace ≡ values ∷ []) × (length values ≡ length names) × (value_in (value_at names values) e ≡ false)
