-- The expressions that stand in a text, each with where it stands, and the ranges that the static rules give them.
use Rattle.std.specs.Prelude.{ℕ, List, [], ◌∷◌, ◌++◌, Option, Some, None, if◌then◌else◌}
use Rattle.std.specs.List.{flat_map}
use Rattle.intervals.specs.Ends.{Ends}
use Rattle.hll_tree.specs.declared.tree.Branch.{Branch, roll-Branch}
use Rattle.hll_tree.specs.declared.tree.Declarator.{Declarator}
use Rattle.hll_tree.specs.declared.tree.Def.{Def}
use Rattle.hll_tree.specs.declared.tree.Domain.{Domain, Domain-F, roll-Domain}
use Rattle.hll_tree.specs.declared.tree.Domain.TheFolds.{map-Domain, map-Form, map-Reach}
use Rattle.hll_tree.specs.declared.tree.Expr.{Expr, roll-Expr, fold-Expr}
use Rattle.hll_tree.specs.declared.tree.Field.{Field}
use Rattle.hll_tree.specs.declared.tree.Form.{Form, Form-F, roll-Form}
use Rattle.hll_tree.specs.declared.tree.HllModel.{HllModel}
use Rattle.hll_tree.specs.declared.tree.Link.{Link, roll-Link}
use Rattle.hll_tree.specs.declared.tree.Reach.{Reach, Reach-F, roll-Reach}
use Rattle.hll_tree.specs.declared.tree.TypeItem.{TypeItem}
use Rattle.hll_tree.specs.declared.tree.TypeItem.TheVariants as item
use Rattle.hll_tree.specs.declared.tree.TypeText.{TypeText}
use Rattle.hll_tree.specs.declared.tree.TypeText.TheVariants as written
use Rattle.hll_meaning.specs.Names.{Thing, constant, type_of, code_in, variable, later, Names, under}
use Rattle.hll_meaning.specs.Fitting.{is_scalar, ends_of}
use Rattle.hll_meaning.specs.Declarations.{Item, a_constant, a_type, variables_of, items, names}
use Rattle.hll_meaning.specs.Judging.{Context, In, for_constant, inside_bind, judged, domain_said}
use Rattle.hll_meaning.specs.StaticRules.{Asked, defines, demands, asked_in, asking, declaring, left_side, part_expressions, Pass1, pass1_item}

-- ---- expressions

-- an expression with where it stands
pub record Node : Type 0 where
  pub where_ : Context
  pub expr : Expr

-- the node of an expression itself
abbrev pub node_at : Expr → In Node
node_at e c = record { where_ = c; expr = e }

-- a part of a tree, with the nodes in it
pub record Piece (A : Type 0) : Type 0 where
  pub tree : A
  pub nodes : In (List Node)

-- the nodes of several pieces, one after the other
abbrev pub nodes_of : {A : Type 0} → List (Piece A) → In (List Node)
nodes_of pieces c = flat_map (λ p. p.nodes c) pieces

-- a domain: its bounds stand where a constant is needed
abbrev pub domain_nodes : Domain-F (Piece Domain) (Piece Form) (Piece Reach) (Piece Branch) (Piece Expr) (Piece Link) → In (List Node)
domain_nodes (Domain-F.Bounds a b) c = a.nodes (for_constant c) ++ b.nodes (for_constant c)
domain_nodes Domain-F.Bool c = []
domain_nodes (Domain-F.Named n) c = []

-- a step of a path
abbrev pub reach_nodes : Reach-F (Piece Domain) (Piece Form) (Piece Reach) (Piece Branch) (Piece Expr) (Piece Link) → In (List Node)
reach_nodes (Reach-F.At e) c = e.nodes c
reach_nodes (Reach-F.Field n) c = []

-- a form: its parts in the order of the walk; the body of a quantifier stands inside its bind
abbrev pub form_nodes : Form-F (Piece Domain) (Piece Form) (Piece Reach) (Piece Branch) (Piece Expr) (Piece Link) → In (List Node)
form_nodes (Form-F.Number n) c = []
form_nodes (Form-F.Truth x) c = []
form_nodes (Form-F.Path n steps) c = nodes_of steps c
form_nodes (Form-F.Chain e links) c = e.nodes c ++ nodes_of links c
form_nodes (Form-F.Compare o a b) c = a.nodes c ++ b.nodes c
form_nodes (Form-F.Minus e) c = e.nodes c
form_nodes (Form-F.Not e) c = e.nodes c
form_nodes (Form-F.Choice branches e) c = nodes_of branches c ++ e.nodes c
form_nodes (Form-F.Group es) c = nodes_of es c
form_nodes (Form-F.Quant q n d e) c = d.nodes c ++ e.nodes (inside_bind n.text (domain_said d.tree c).kind c)
form_nodes (Form-F.Pre e None) c = e.nodes c
form_nodes (Form-F.Pre e (Some first)) c = e.nodes c ++ first.nodes c
form_nodes (Form-F.Least es) c = nodes_of es c
form_nodes (Form-F.Greatest es) c = nodes_of es c
form_nodes (Form-F.Size e) c = e.nodes c
form_nodes Form-F.Starting c = []
form_nodes (Form-F.Within e i) c = e.nodes c

-- the pieces of a tree, from those of its parts
abbrev pub domain_piece : Domain-F (Piece Domain) (Piece Form) (Piece Reach) (Piece Branch) (Piece Expr) (Piece Link) → Piece Domain
domain_piece d = record {
  tree = roll-Domain (map-Domain (Piece Domain) (Piece Form) (Piece Reach) (Piece Branch) (Piece Expr) (Piece Link) Domain Form Reach Branch Expr Link (λ p. p.tree) (λ p. p.tree) (λ p. p.tree) (λ p. p.tree) (λ p. p.tree) (λ p. p.tree) d);
  nodes = domain_nodes d;
}

abbrev pub form_piece : Form-F (Piece Domain) (Piece Form) (Piece Reach) (Piece Branch) (Piece Expr) (Piece Link) → Piece Form
form_piece f = record {
  tree = roll-Form (map-Form (Piece Domain) (Piece Form) (Piece Reach) (Piece Branch) (Piece Expr) (Piece Link) Domain Form Reach Branch Expr Link (λ p. p.tree) (λ p. p.tree) (λ p. p.tree) (λ p. p.tree) (λ p. p.tree) (λ p. p.tree) f);
  nodes = form_nodes f;
}

abbrev pub reach_piece : Reach-F (Piece Domain) (Piece Form) (Piece Reach) (Piece Branch) (Piece Expr) (Piece Link) → Piece Reach
reach_piece r = record {
  tree = roll-Reach (map-Reach (Piece Domain) (Piece Form) (Piece Reach) (Piece Branch) (Piece Expr) (Piece Link) Domain Form Reach Branch Expr Link (λ p. p.tree) (λ p. p.tree) (λ p. p.tree) (λ p. p.tree) (λ p. p.tree) (λ p. p.tree) r);
  nodes = reach_nodes r;
}

-- a condition stands before what it chooses
abbrev pub branch_piece : Piece Expr → Piece Expr → Piece Branch
branch_piece when gives = record {
  tree = roll-Branch (record { when = when.tree; gives = gives.tree });
  nodes = λ c. when.nodes c ++ gives.nodes c;
}

-- an expression stands behind its parts
abbrev pub expression_piece : ℕ → Piece Form → Piece Expr
expression_piece at form =
    let e = roll-Expr (record { at = at; form = form.tree }) in
    record { tree = e; nodes = λ c. form.nodes c ++ (node_at e c ∷ []) }

-- an expression as a piece
unfoldable pub piece_of : Expr → Piece Expr
piece_of =
    fold-Expr (Piece Domain) (Piece Form) (Piece Reach) (Piece Branch) (Piece Expr) (Piece Link)
    domain_piece form_piece reach_piece
    (λ b. branch_piece b.when b.gives) (λ e. expression_piece e.at e.form)
    (λ link. record { tree = roll-Link (record { op = link.op; at = link.at; with = link.with.tree }); nodes = link.with.nodes })

-- all expressions that stand in an expression, in the order of the walk, itself last
abbrev pub nodes : Expr → In (List Node)
nodes e = (piece_of e).nodes

-- those of several expressions in one place
abbrev pub all_nodes : List Expr → In (List Node)
all_nodes es c = flat_map (λ e. nodes e c) es

-- ---- ranges

-- a place, with the range of the expression that stands there
pub record Placed : Type 0 where
  pub at : ℕ
  pub range : Ends

-- the range of a node where it is scalar; a truth value has 0 to 1, an element the codes that it may have
abbrev pub own_range : Node → List Placed
own_range n =
    let k = (judged n.expr n.where_).kind in
    if is_scalar k then record { at = n.expr.at; range = ends_of k } ∷ [] else []

-- those of nodes
abbrev pub ranges_of : List Node → List Placed
ranges_of = flat_map own_range

-- the ranges of all scalars that stand in an expression
abbrev pub ranges : Expr → In (List Placed)
ranges e c = ranges_of (nodes e c)

-- ---- declarations

-- a type as it is written
abbrev pub type_nodes : TypeText → In (List Node)
type_nodes written.Bool c = []
type_nodes (written.Bounds a b) c = nodes a c ++ nodes b c
type_nodes (written.Signed e) c = nodes e c
type_nodes (written.Unsigned e) c = nodes e c
type_nodes (written.Named n) c = []

-- declarators with their dimensions
abbrev pub declarators_nodes : List Declarator → In (List Node)
declarators_nodes ds c = flat_map (λ d. all_nodes d.dims c) ds

-- the fields of a struct
abbrev pub fields_nodes : List Field → In (List Node)
fields_nodes fs c = flat_map (λ f. type_nodes f.ty c ++ all_nodes f.of.dims c) fs

-- a declared type
abbrev pub type_item_nodes : TypeItem → In (List Node)
type_item_nodes (item.Alias ty d) c = type_nodes ty c ++ all_nodes d.dims c
type_item_nodes (item.Enumeration es n) c = []
type_item_nodes (item.Structure fields n) c = fields_nodes fields c
type_item_nodes (item.Leaves es n) c = []
type_item_nodes (item.Children children n) c = []

-- an item that declares: the value of a constant, the bounds, sizes and dimensions of types
abbrev pub item_nodes : Item → In (List Node)
item_nodes (a_constant k) c = nodes k.value c
item_nodes (a_type t) c = type_item_nodes t c
item_nodes (variables_of input decl) c = type_nodes decl.ty c ++ declarators_nodes decl.names c

-- ---- definitions and demands

-- a definition, by what its name stands for: what it gives stands under the index names of its left side
abbrev pub defined_nodes : Names → Def → Option Thing → List Node
defined_nodes all d None = []
defined_nodes all d (Some (constant b x)) = []
defined_nodes all d (Some (type_of k)) = []
defined_nodes all d (Some (code_in root c)) = []
defined_nodes all d (Some (variable input k)) = all_nodes (part_expressions d.part) (asking all (left_side d.indices k).bound)
defined_nodes all d (Some later) = []

-- a definition, or a constraint or obligation
abbrev pub asked_nodes : Names → Asked → List Node
asked_nodes all (defines d) = defined_nodes all d (under d.name.text all)
asked_nodes all (demands e) = nodes e (asking all [])

-- ---- texts

-- where an expression of a declaration stands, seen from the whole text: a constant is needed
abbrev pub where_declared : Names → Context
where_declared all = for_constant (asking all [])

-- the nodes of declarations
abbrev pub declared_nodes : Names → List Item → List Node
declared_nodes all its = flat_map (λ it. item_nodes it (where_declared all)) its

-- the same as pass 1 meets them, from what it has so far: behind what was declared before
abbrev pub pass1_nodes : List (List ℕ) → Pass1 → List Item → List Node
pass1_nodes further p [] = []
pass1_nodes further p (it ∷ its) = item_nodes it (declaring p.names further) ++ pass1_nodes further (pass1_item further p it) its

-- all expressions that stand in a text: those of its declarations, and then those of its definitions and demands
abbrev pub text_nodes : HllModel → List Node
text_nodes m = declared_nodes (names m) (items m) ++ flat_map (asked_nodes (names m)) (flat_map asked_in m.sections)

-- the ranges of all scalars that stand in a text
abbrev pub text_ranges : HllModel → List Placed
text_ranges m = ranges_of (text_nodes m)
