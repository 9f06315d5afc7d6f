-- The one layout of a text: what is printed of a tree.
use Rattle.std.specs.Prelude.{ℕ, suc, nat_lt, Bool, true, false, List, [], ◌∷◌, ◌++◌, map, Option, Some, None, codes, if◌then◌else◌}
use Rattle.std.specs.Fmt.{signed_decimal}
use Rattle.std.specs.List.{flat_map}
use Rattle.hll_lexer.specs.Words.{is_plain_name}
use Rattle.hll_tree.specs.declared.tree.Branch.{Branch}
use Rattle.hll_tree.specs.declared.tree.Cmp.{Cmp}
use Rattle.hll_tree.specs.declared.tree.Cmp.TheVariants as cmp
use Rattle.hll_tree.specs.declared.tree.ConstItem.{ConstItem}
use Rattle.hll_tree.specs.declared.tree.Decl.{Decl}
use Rattle.hll_tree.specs.declared.tree.Declarator.{Declarator}
use Rattle.hll_tree.specs.declared.tree.Def.{Def}
use Rattle.hll_tree.specs.declared.tree.Domain.{Domain, Domain-F}
use Rattle.hll_tree.specs.declared.tree.Expr.{Expr, fold-Expr, out-Expr}
use Rattle.hll_tree.specs.declared.tree.Field.{Field}
use Rattle.hll_tree.specs.declared.tree.Form.{Form, Form-F, out-Form}
use Rattle.hll_tree.specs.declared.tree.HllModel.{HllModel}
use Rattle.hll_tree.specs.declared.tree.Link.{Link}
use Rattle.hll_tree.specs.declared.tree.Name.{Name}
use Rattle.hll_tree.specs.declared.tree.Op.{Op}
use Rattle.hll_tree.specs.declared.tree.Op.TheVariants as op
use Rattle.hll_tree.specs.declared.tree.Part.{Part}
use Rattle.hll_tree.specs.declared.tree.Part.TheVariants as part
use Rattle.hll_tree.specs.declared.tree.Precedence.{Precedence}
use Rattle.hll_tree.specs.declared.tree.Precedence.TheVariants as precedence
use Rattle.hll_tree.specs.declared.tree.Quant.{Quant}
use Rattle.hll_tree.specs.declared.tree.Quant.TheVariants as quant
use Rattle.hll_tree.specs.declared.tree.Reach.{Reach, Reach-F}
use Rattle.hll_tree.specs.declared.tree.Section.{Section}
use Rattle.hll_tree.specs.declared.tree.Section.TheVariants as section
use Rattle.hll_tree.specs.declared.tree.Slot.{Slot}
use Rattle.hll_tree.specs.declared.tree.Slot.TheVariants as slot
use Rattle.hll_tree.specs.declared.tree.TypeItem.{TypeItem}
use Rattle.hll_tree.specs.declared.tree.TypeItem.TheVariants as item
use Rattle.hll_tree.specs.declared.tree.TypeText.{TypeText}
use Rattle.hll_tree.specs.declared.tree.TypeText.TheVariants as ty
use Rattle.hll_tree.specs.Spells.{precedence_of}

-- bytes
abbrev pub Text : Type 0
Text = List ℕ

-- texts with another one between each two of them
abbrev pub joined : Text → List Text → Text
joined between [] = []
joined between (t ∷ ts) = t ++ flat_map (λ u. between ++ u) ts

-- ---- names

-- a name stands in quotes where it isn't plain
abbrev pub name_text : Text → Text
name_text bytes = if is_plain_name bytes then bytes else codes "'" ++ bytes ++ codes "'"

-- names parted by commas
abbrev pub names_text : List Name → Text
names_text names = joined (codes ", ") (map (λ n. name_text n.text) names)

-- ---- operators

-- the sign of an operator
abbrev pub sign_text : Op → Text
sign_text op.Same = codes "<->"
sign_text op.Differ = codes "#!"
sign_text op.Implies = codes "->"
sign_text op.Or = codes "#"
sign_text op.And = codes "&"
sign_text op.Plus = codes "+"
sign_text op.Less = codes "-"
sign_text op.Times = codes "*"
sign_text op.Over = codes "/"
sign_text op.Rest = codes "%"

-- the sign of a comparison
abbrev pub comparison_text : Cmp → Text
comparison_text cmp.Eq = codes "="
comparison_text cmp.Ne = codes "<>"
comparison_text cmp.Lt = codes "<"
comparison_text cmp.Le = codes "<="
comparison_text cmp.Gt = codes ">"
comparison_text cmp.Ge = codes ">="

-- ---- levels: how tightly an expression holds together, and how tightly it must where it stands

-- `if`, and where anything may stand
abbrev pub loosest : ℕ
loosest = 0

-- a chain of operators that bind so
abbrev pub chain_level : Precedence → ℕ
chain_level precedence.Equivalence = 1
chain_level precedence.Implication = 2
chain_level precedence.Disjunction = 3
chain_level precedence.Conjunction = 4
chain_level precedence.Sum = 6
chain_level precedence.Product = 7

-- a comparison
abbrev pub comparison_level : ℕ
comparison_level = 5

-- an operand, with a sign before it or without one
abbrev pub operand_level : ℕ
operand_level = 8

-- the text of an expression, and its level
pub record Printed : Type 0 where
  pub level : ℕ
  pub text : Text

-- an expression where this level is wanted: in parentheses where its own is lower
abbrev pub at_level : ℕ → Printed → Text
at_level wanted p = if nat_lt p.level wanted then codes "(" ++ p.text ++ codes ")" else p.text

-- where anything may stand
abbrev pub plainly : Printed → Text
plainly = at_level loosest

-- expressions parted by commas
abbrev pub list_text : List Printed → Text
list_text es = joined (codes ", ") (map plainly es)

-- ---- parts of expressions

-- a reach: an index, or the text of a field
pub data ReachText : Type 0 where
  index field : Text → ReachText

-- reaches, where a bracket is open or not: indices that follow each other stand in one bracket
abbrev pub reaches_text : Bool → List ReachText → Text
reaches_text false [] = []
reaches_text true [] = codes "]"
reaches_text false (index e ∷ rs) = codes "[" ++ e ++ reaches_text true rs
reaches_text true (index e ∷ rs) = codes ", " ++ e ++ reaches_text true rs
reaches_text false (field f ∷ rs) = codes "." ++ f ++ reaches_text false rs
reaches_text true (field f ∷ rs) = codes "]." ++ f ++ reaches_text false rs

-- a word for a truth value
abbrev pub truth_text : Bool → Text
truth_text true = codes "true"
truth_text false = codes "false"

-- the word of a quantifier
abbrev pub quantifier_text : Quant → Text
quantifier_text quant.All = codes "ALL"
quantifier_text quant.Any = codes "SOME"
quantifier_text quant.Sum = codes "SUM"

-- a condition with what stands for it
abbrev pub branch_text : Text × Text → Text
branch_text b = b.0 ++ codes " then " ++ b.1

-- conditions, each with what stands for it
abbrev pub branches_text : List (Text × Text) → Text
branches_text branches = joined (codes " elif ") (map branch_text branches)

-- the level of a chain, by its first operator
abbrev pub links_level : List (Op × Text) → ℕ
links_level [] = operand_level
links_level (link ∷ links) = chain_level (precedence_of link.0)

-- an operator with its right operand
abbrev pub link_text : Op × Text → Text
link_text link = codes " " ++ sign_text link.0 ++ codes " " ++ link.1

-- operators, each with its right operand
abbrev pub links_text : List (Op × Text) → Text
links_text = flat_map link_text

-- the first value of a `pre`, if it has one
abbrev pub first_value_text : Option Printed → Text
first_value_text None = []
first_value_text (Some e) = codes ", " ++ plainly e

-- ---- expressions, by the texts of their parts

-- a domain
abbrev pub domain_text : Domain-F Text Printed ReachText (Text × Text) Printed (Op × Text) → Text
domain_text (Domain-F.Bounds a b) = codes "[" ++ plainly a ++ codes ", " ++ plainly b ++ codes "]"
domain_text Domain-F.Bool = codes "bool"
domain_text (Domain-F.Named n) = name_text n.text

-- a form
abbrev pub form_text : Form-F Text Printed ReachText (Text × Text) Printed (Op × Text) → Printed
form_text (Form-F.Number n) = record { level = operand_level; text = signed_decimal n }
form_text (Form-F.Truth x) = record { level = operand_level; text = truth_text x }
form_text (Form-F.Path n rs) = record { level = operand_level; text = name_text n.text ++ reaches_text false rs }
form_text (Form-F.Chain e links) = record {
  level = links_level links;
  text = at_level (suc (links_level links)) e ++ links_text links;
}
form_text (Form-F.Compare c a b) = record {
  level = comparison_level;
  text = at_level (suc comparison_level) a ++ codes " " ++ comparison_text c ++ codes " " ++ at_level (suc comparison_level) b;
}
form_text (Form-F.Minus e) = record { level = operand_level; text = codes "-" ++ at_level operand_level e }
form_text (Form-F.Not e) = record { level = operand_level; text = codes "~" ++ at_level operand_level e }
form_text (Form-F.Choice branches e) = record {
  level = loosest;
  text = codes "if " ++ branches_text branches ++ codes " else " ++ plainly e;
}
form_text (Form-F.Group es) = record { level = operand_level; text = codes "{" ++ list_text es ++ codes "}" }
form_text (Form-F.Quant q n d e) = record {
  level = operand_level;
  text = quantifier_text q ++ codes " " ++ name_text n.text ++ codes " : " ++ d ++ codes " (" ++ plainly e ++ codes ")";
}
form_text (Form-F.Pre e first) = record { level = operand_level; text = codes "pre(" ++ plainly e ++ first_value_text first ++ codes ")" }
form_text (Form-F.Least es) = record { level = operand_level; text = codes "$min(" ++ list_text es ++ codes ")" }
form_text (Form-F.Greatest es) = record { level = operand_level; text = codes "$max(" ++ list_text es ++ codes ")" }
form_text (Form-F.Size e) = record { level = operand_level; text = codes "$abs(" ++ plainly e ++ codes ")" }
form_text Form-F.Starting = record { level = operand_level; text = [] }
form_text (Form-F.Within e i) = record { level = operand_level; text = [] }

-- a reach
abbrev pub reach_text : Reach-F Text Printed ReachText (Text × Text) Printed (Op × Text) → ReachText
reach_text (Reach-F.At e) = index (plainly e)
reach_text (Reach-F.Field n) = field (name_text n.text)

-- an expression with its level
unfoldable pub printed : Expr → Printed
printed =
    fold-Expr Text Printed ReachText (Text × Text) Printed (Op × Text)
    domain_text form_text reach_text
    (λ b. (plainly b.when, plainly b.gives))
    (λ e. e.form)
    (λ link. (link.op, at_level (suc (chain_level (precedence_of link.op))) link.with))

-- an expression
abbrev pub expression_text : Expr → Text
expression_text e = plainly (printed e)

-- ---- types and declarations

-- dimensions in one bracket, or nothing
abbrev pub dims_text : List Expr → Text
dims_text [] = []
dims_text (e ∷ es) = codes "[" ++ joined (codes ", ") (map expression_text (e ∷ es)) ++ codes "]"

-- a number, or a name alone, by form
abbrev pub is_bare_form : Form-F Domain Form Reach Branch Expr Link → Bool
is_bare_form (Form-F.Number n) = true
is_bare_form (Form-F.Path n []) = true
is_bare_form (Form-F.Path n (r ∷ rs)) = false
is_bare_form (Form-F.Truth x) = false
is_bare_form (Form-F.Chain e links) = false
is_bare_form (Form-F.Compare c a b) = false
is_bare_form (Form-F.Minus e) = false
is_bare_form (Form-F.Not e) = false
is_bare_form (Form-F.Choice branches e) = false
is_bare_form (Form-F.Group es) = false
is_bare_form (Form-F.Quant q n d e) = false
is_bare_form (Form-F.Pre e first) = false
is_bare_form (Form-F.Least es) = false
is_bare_form (Form-F.Greatest es) = false
is_bare_form (Form-F.Size e) = false
is_bare_form Form-F.Starting = false
is_bare_form (Form-F.Within e i) = false

-- a number, or a name alone
abbrev pub is_bare : Expr → Bool
is_bare e = is_bare_form (out-Form (out-Expr e).form)

-- a size: a number or a name as it is, all else in parentheses
abbrev pub size_text : Expr → Text
size_text e = if is_bare e then expression_text e else codes "(" ++ expression_text e ++ codes ")"

-- a type
abbrev pub type_text : TypeText → Text
type_text ty.Bool = codes "bool"
type_text (ty.Bounds a b) = codes "int [" ++ expression_text a ++ codes ", " ++ expression_text b ++ codes "]"
type_text (ty.Signed e) = codes "int signed " ++ size_text e
type_text (ty.Unsigned e) = codes "int unsigned " ++ size_text e
type_text (ty.Named n) = name_text n.text

-- a declared name with its dimensions
abbrev pub declarator_text : Declarator → Text
declarator_text d = name_text d.name.text ++ dims_text d.dims

-- a declaration
abbrev pub decl_text : Decl → Text
decl_text d = type_text d.ty ++ codes " " ++ joined (codes ", ") (map declarator_text d.names)

-- a constant
abbrev pub constant_text : ConstItem → Text
constant_text c = (if c.boolean then codes "bool " else codes "int ") ++ name_text c.name.text ++ codes " := " ++ expression_text c.value

-- a field of a struct
abbrev pub field_text : Field → Text
field_text f = name_text f.of.name.text ++ codes ": " ++ type_text f.ty ++ dims_text f.of.dims

-- a declared type
abbrev pub type_item_text : TypeItem → Text
type_item_text (item.Alias t d) = type_text t ++ codes " " ++ declarator_text d
type_item_text (item.Enumeration names n) = codes "enum {" ++ names_text names ++ codes "} " ++ name_text n.text
type_item_text (item.Structure fields n) = codes "struct {" ++ joined (codes ", ") (map field_text fields) ++ codes "} " ++ name_text n.text
type_item_text (item.Leaves names n) = codes "sort {" ++ names_text names ++ codes "} " ++ name_text n.text
type_item_text (item.Children names n) = codes "sort " ++ names_text names ++ codes " < " ++ name_text n.text

-- ---- definitions

-- a slot of a left side
abbrev pub slot_text : Slot → Text
slot_text (slot.Index n) = name_text n.text
slot_text (slot.Fixed at value) = signed_decimal value

-- slots in one bracket, or nothing
abbrev pub slots_text : List Slot → Text
slots_text [] = []
slots_text (s ∷ ss) = codes "[" ++ joined (codes ", ") (map slot_text (s ∷ ss)) ++ codes "]"

-- a left side
abbrev pub left_side_text : Def → Text
left_side_text d = name_text d.name.text ++ slots_text d.indices

-- a definition, by what it gives
abbrev pub part_text : Text → Part → Text
part_text left (part.Value e) = left ++ codes " := " ++ expression_text e
part_text left (part.Both e f) = left ++ codes " := " ++ expression_text e ++ codes ", " ++ expression_text f
part_text left (part.First e) = codes "I(" ++ left ++ codes ") := " ++ expression_text e
part_text left (part.Next e) = codes "X(" ++ left ++ codes ") := " ++ expression_text e

-- a definition
abbrev pub definition_text : Def → Text
definition_text d = part_text (left_side_text d) d.part

-- ---- sections

-- items, each on a line of its own
abbrev pub items_text : List Text → Text
items_text = flat_map (λ t. codes "  " ++ t ++ codes ";\n")

-- a section: its words on a line, and its items
abbrev pub section_text : Section → Text
section_text (section.Constants cs) = codes "Constants:\n" ++ items_text (map constant_text cs)
section_text (section.Types ts) = codes "Types:\n" ++ items_text (map type_item_text ts)
section_text (section.Inputs ds) = codes "Inputs:\n" ++ items_text (map decl_text ds)
section_text (section.Declarations ds) = codes "Declarations:\n" ++ items_text (map decl_text ds)
section_text (section.Definitions ds) = codes "Definitions:\n" ++ items_text (map definition_text ds)
section_text (section.Constraints es) = codes "Constraints:\n" ++ items_text (map expression_text es)
section_text (section.Obligations es) = codes "Proof Obligations:\n" ++ items_text (map expression_text es)

-- a model: its sections
unfoldable pub model_text : HllModel → Text
model_text m = flat_map section_text m.sections
