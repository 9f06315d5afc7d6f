-- Boolean texts: the names of their inputs, and the expressions over them that a truth table decides.
use Rattle.std.specs.Prelude.{ℕ, Bool, true, false, ◌&&◌, List, [], ◌∷◌, ◌++◌, map, Contains}
use Rattle.std.specs.List.{flat_map, AllByRecursion, list_all}
use Rattle.hll_tree.specs.declared.tree.Decl.{Decl}
use Rattle.hll_tree.specs.declared.tree.Expr.{Expr, fold-Expr}
use Rattle.hll_tree.specs.declared.tree.Form.{Form-F}
use Rattle.hll_tree.specs.declared.tree.HllModel.{HllModel}
use Rattle.hll_tree.specs.declared.tree.Op.{Op}
use Rattle.hll_tree.specs.declared.tree.Op.TheVariants as op
use Rattle.hll_tree.specs.declared.tree.Section.{Section}
use Rattle.hll_tree.specs.declared.tree.Section.TheVariants as section

-- ---- inputs

-- the names of a declaration, in text order
abbrev pub declared_names : Decl → List (List ℕ)
declared_names decl = map (λ d. d.name.text) decl.names

-- the names of the inputs of a section
abbrev pub input_names_in : Section → List (List ℕ)
input_names_in (section.Constants items) = []
input_names_in (section.Types items) = []
input_names_in (section.Inputs decls) = flat_map declared_names decls
input_names_in (section.Declarations decls) = []
input_names_in (section.Definitions defs) = []
input_names_in (section.Constraints es) = []
input_names_in (section.Obligations es) = []

-- the names of the inputs of a text, in text order
abbrev pub input_names : HllModel → List (List ℕ)
input_names m = flat_map input_names_in m.sections

-- ---- Boolean expressions

-- an operator of Boolean chains
abbrev pub is_boolean_op : Op → Bool
is_boolean_op op.Same = false
is_boolean_op op.Differ = false
is_boolean_op op.Implies = true
is_boolean_op op.Or = true
is_boolean_op op.And = true
is_boolean_op op.Plus = false
is_boolean_op op.Less = false
is_boolean_op op.Times = false
is_boolean_op op.Over = false
is_boolean_op op.Rest = false

-- nothing is reached through a name
abbrev pub is_plain_path : List Bool → Bool
is_plain_path [] = true
is_plain_path (reach ∷ reaches) = false

-- a form, by its parts
abbrev pub is_boolean_form : Form-F Bool Bool Bool Bool Bool Bool → Bool
is_boolean_form (Form-F.Number n) = false
is_boolean_form (Form-F.Truth x) = true
is_boolean_form (Form-F.Path name reaches) = is_plain_path reaches
is_boolean_form (Form-F.Chain first links) = first && list_all (λ link. link) links
is_boolean_form (Form-F.Compare c a b) = false
is_boolean_form (Form-F.Minus x) = false
is_boolean_form (Form-F.Not x) = x
is_boolean_form (Form-F.Choice branches x) = false
is_boolean_form (Form-F.Group xs) = false
is_boolean_form (Form-F.Quant q n d x) = false
is_boolean_form (Form-F.Pre x first) = false
is_boolean_form (Form-F.Least xs) = false
is_boolean_form (Form-F.Greatest xs) = false
is_boolean_form (Form-F.Size x) = false
is_boolean_form Form-F.Starting = false
is_boolean_form (Form-F.Within x i) = false

-- an expression of truth values, names, `~`, `&`, `#` and `->` alone
unfoldable pub is_boolean : Expr → Bool
is_boolean =
    fold-Expr Bool Bool Bool Bool Bool Bool
    (λ d. false) is_boolean_form (λ r. false) (λ b. false) (λ e. e.form) (λ link. is_boolean_op link.op && link.with)

-- ---- the names that it uses

-- lists of names, one after the other
abbrev pub all_names : List (List (List ℕ)) → List (List ℕ)
all_names = flat_map (λ names. names)

-- the names that a form uses; forms that are not Boolean are left out
abbrev pub form_names : Form-F (List (List ℕ)) (List (List ℕ)) (List (List ℕ)) (List (List ℕ)) (List (List ℕ)) (List (List ℕ)) → List (List ℕ)
form_names (Form-F.Number n) = []
form_names (Form-F.Truth x) = []
form_names (Form-F.Path name reaches) = name.text ∷ []
form_names (Form-F.Chain first links) = first ++ all_names links
form_names (Form-F.Compare c a b) = []
form_names (Form-F.Minus x) = []
form_names (Form-F.Not names) = names
form_names (Form-F.Choice branches x) = []
form_names (Form-F.Group xs) = []
form_names (Form-F.Quant q n d x) = []
form_names (Form-F.Pre x first) = []
form_names (Form-F.Least xs) = []
form_names (Form-F.Greatest xs) = []
form_names (Form-F.Size x) = []
form_names Form-F.Starting = []
form_names (Form-F.Within x i) = []

-- each name in an expression, as often as it stands there
unfoldable pub names_in : Expr → List (List ℕ)
names_in =
    fold-Expr (List (List ℕ)) (List (List ℕ)) (List (List ℕ)) (List (List ℕ)) (List (List ℕ)) (List (List ℕ))
    (λ d. []) form_names (λ r. []) (λ b. []) (λ e. e.form) (λ link. link.with)

-- it uses no names but these
abbrev pub UsesOnly : List (List ℕ) → Expr → Type 0
UsesOnly names e = AllByRecursion (Contains names) (names_in e)
