-- Trees that are equal but for their places.
use Rattle.std.specs.Prelude.{◌≡◌, map}
use Rattle.hll_tree.specs.declared.tree.Branch.{Branch, roll-Branch}
use Rattle.hll_tree.specs.declared.tree.ConstItem.{ConstItem}
use Rattle.hll_tree.specs.declared.tree.Decl.{Decl}
use Rattle.hll_tree.specs.declared.tree.Declarator.{Declarator}
use Rattle.hll_tree.specs.declared.tree.Def.{Def}
use Rattle.hll_tree.specs.declared.tree.Domain.{Domain, Domain-F}
use Rattle.hll_tree.specs.declared.tree.Domain.TheVariants as domain
use Rattle.hll_tree.specs.declared.tree.Expr.{Expr, fold-Expr, roll-Expr}
use Rattle.hll_tree.specs.declared.tree.Field.{Field}
use Rattle.hll_tree.specs.declared.tree.Form.{Form, Form-F}
use Rattle.hll_tree.specs.declared.tree.Form.TheVariants as form
use Rattle.hll_tree.specs.declared.tree.HllModel.{HllModel}
use Rattle.hll_tree.specs.declared.tree.Link.{Link, roll-Link}
use Rattle.hll_tree.specs.declared.tree.Name.{Name}
use Rattle.hll_tree.specs.declared.tree.Part.{Part}
use Rattle.hll_tree.specs.declared.tree.Part.TheVariants as part
use Rattle.hll_tree.specs.declared.tree.Reach.{Reach, Reach-F}
use Rattle.hll_tree.specs.declared.tree.Reach.TheVariants as reach
use Rattle.hll_tree.specs.declared.tree.Section.{Section}
use Rattle.hll_tree.specs.declared.tree.Section.TheVariants as section
use Rattle.hll_tree.specs.declared.tree.Slot.{Slot}
use Rattle.hll_tree.specs.declared.tree.Slot.TheVariants as slot
use Rattle.hll_tree.specs.declared.tree.TypeItem.{TypeItem}
use Rattle.hll_tree.specs.declared.tree.TypeItem.TheVariants as item
use Rattle.hll_tree.specs.declared.tree.TypeText.{TypeText}
use Rattle.hll_tree.specs.declared.tree.TypeText.TheVariants as ty

-- a name at place 0
abbrev pub name_without : Name → Name
name_without n = record { text = n.text; at = 0 }

-- ---- expressions, by their parts without places

-- a domain
abbrev pub domain_without_step : Domain-F Domain Form Reach Branch Expr Link → Domain
domain_without_step (Domain-F.Bounds a b) = domain.Bounds a b
domain_without_step Domain-F.Bool = domain.Bool
domain_without_step (Domain-F.Named n) = domain.Named (name_without n)

-- a form
abbrev pub form_without_step : Form-F Domain Form Reach Branch Expr Link → Form
form_without_step (Form-F.Number n) = form.Number n
form_without_step (Form-F.Truth x) = form.Truth x
form_without_step (Form-F.Path n rs) = form.Path (name_without n) rs
form_without_step (Form-F.Chain e links) = form.Chain e links
form_without_step (Form-F.Compare c a b) = form.Compare c a b
form_without_step (Form-F.Minus e) = form.Minus e
form_without_step (Form-F.Not e) = form.Not e
form_without_step (Form-F.Choice branches e) = form.Choice branches e
form_without_step (Form-F.Group es) = form.Group es
form_without_step (Form-F.Quant q n d e) = form.Quant q (name_without n) d e
form_without_step (Form-F.Pre e first) = form.Pre e first
form_without_step (Form-F.Least es) = form.Least es
form_without_step (Form-F.Greatest es) = form.Greatest es
form_without_step (Form-F.Size e) = form.Size e
form_without_step Form-F.Starting = form.Starting
form_without_step (Form-F.Within e i) = form.Within e i

-- a reach
abbrev pub reach_without_step : Reach-F Domain Form Reach Branch Expr Link → Reach
reach_without_step (Reach-F.At e) = reach.At e
reach_without_step (Reach-F.Field n) = reach.Field (name_without n)

-- an expression with every place in it set to 0
unfoldable pub expression_without : Expr → Expr
expression_without =
    fold-Expr Domain Form Reach Branch Expr Link
    domain_without_step form_without_step reach_without_step
    (λ b. roll-Branch (record { when = b.when; gives = b.gives }))
    (λ e. roll-Expr (record { at = 0; form = e.form }))
    (λ link. roll-Link (record { op = link.op; at = 0; with = link.with }))

-- ---- the rest of a model, with every place in it set to 0

-- a type
abbrev pub type_without : TypeText → TypeText
type_without ty.Bool = ty.Bool
type_without (ty.Bounds a b) = ty.Bounds (expression_without a) (expression_without b)
type_without (ty.Signed e) = ty.Signed (expression_without e)
type_without (ty.Unsigned e) = ty.Unsigned (expression_without e)
type_without (ty.Named n) = ty.Named (name_without n)

-- a declared name
abbrev pub declarator_without : Declarator → Declarator
declarator_without d = record { name = name_without d.name; dims = map expression_without d.dims }

-- a declaration
abbrev pub decl_without : Decl → Decl
decl_without d = record { ty = type_without d.ty; names = map declarator_without d.names }

-- a constant
abbrev pub constant_without : ConstItem → ConstItem
constant_without c = record { boolean = c.boolean; name = name_without c.name; value = expression_without c.value }

-- a field
abbrev pub field_without : Field → Field
field_without f = record { ty = type_without f.ty; of = declarator_without f.of }

-- a declared type
abbrev pub type_item_without : TypeItem → TypeItem
type_item_without (item.Alias t d) = item.Alias (type_without t) (declarator_without d)
type_item_without (item.Enumeration names n) = item.Enumeration (map name_without names) (name_without n)
type_item_without (item.Structure fields n) = item.Structure (map field_without fields) (name_without n)
type_item_without (item.Leaves names n) = item.Leaves (map name_without names) (name_without n)
type_item_without (item.Children names n) = item.Children (map name_without names) (name_without n)

-- a slot
abbrev pub slot_without : Slot → Slot
slot_without (slot.Index n) = slot.Index (name_without n)
slot_without (slot.Fixed at value) = slot.Fixed 0 value

-- what a definition gives
abbrev pub part_without : Part → Part
part_without (part.Value e) = part.Value (expression_without e)
part_without (part.Both e f) = part.Both (expression_without e) (expression_without f)
part_without (part.First e) = part.First (expression_without e)
part_without (part.Next e) = part.Next (expression_without e)

-- a definition
abbrev pub definition_without : Def → Def
definition_without d = record { at = 0; name = name_without d.name; indices = map slot_without d.indices; part = part_without d.part }

-- a section
abbrev pub section_without : Section → Section
section_without (section.Constants cs) = section.Constants (map constant_without cs)
section_without (section.Types ts) = section.Types (map type_item_without ts)
section_without (section.Inputs ds) = section.Inputs (map decl_without ds)
section_without (section.Declarations ds) = section.Declarations (map decl_without ds)
section_without (section.Definitions ds) = section.Definitions (map definition_without ds)
section_without (section.Constraints es) = section.Constraints (map expression_without es)
section_without (section.Obligations es) = section.Obligations (map expression_without es)

-- a model
abbrev pub model_without : HllModel → HllModel
model_without m = record { sections = map section_without m.sections }

-- two models differ in places alone
abbrev pub SameButPlaces : HllModel → HllModel → Type 0
SameButPlaces m m' = model_without m ≡ model_without m'
