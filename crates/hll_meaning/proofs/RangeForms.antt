-- The ranges of the scalars that stand in an expression, form by form, and in the types and items of a text.
use Rattle.std.proofs.Common.{◌≡◌, ℤ, Bool, Some, None, List, [], ◌∷◌, ◌++◌, refl, ap, ◌∙◌, append-nil}
use Rattle.std.specs.List.{flat_map}
use Rattle.intervals.specs.declared.interval.Interval.{Interval}
use Rattle.hll_tree.specs.declared.tree.Branch.{Branch}
use Rattle.hll_tree.specs.declared.tree.Cmp.{Cmp}
use Rattle.hll_tree.specs.declared.tree.Decl.{Decl}
use Rattle.hll_tree.specs.declared.tree.Declarator.{Declarator}
use Rattle.hll_tree.specs.declared.tree.Def.{Def}
use Rattle.hll_tree.specs.declared.tree.Domain.{Domain, Bounds, Bool as Truths, Named}
use Rattle.hll_tree.specs.declared.tree.Expr.{Expr}
use Rattle.hll_tree.specs.declared.tree.Field.{Field as TypedField}
use Rattle.hll_tree.specs.declared.tree.Form.{Number, Truth, Path, Chain, Compare, Minus, Not, Choice, Group, Quant as Quantified, Pre, Least, Greatest, Size, Starting, Within}
use Rattle.hll_tree.specs.declared.tree.HllModel.{HllModel}
use Rattle.hll_tree.specs.declared.tree.Link.{Link}
use Rattle.hll_tree.specs.declared.tree.Name.{Name}
use Rattle.hll_tree.specs.declared.tree.Quant.{Quant}
use Rattle.hll_tree.specs.declared.tree.Reach.{Reach, At, Field}
use Rattle.hll_tree.specs.declared.tree.TypeText.{TypeText}
use Rattle.hll_tree.specs.declared.tree.TypeText.TheVariants as written
use Rattle.hll_meaning.specs.Kinds.{Kind}
use Rattle.hll_meaning.specs.Names.{variable, Names, under}
use Rattle.hll_meaning.specs.Declarations.{variables_of, items, names}
use Rattle.hll_meaning.specs.Judging.{Context, In, for_constant, inside_bind, domain_said}
use Rattle.hll_meaning.specs.StaticRules.{asked_in, asking, defines, left_side, part_expressions}
use Rattle.hll_meaning.specs.Nodes.{Node, node_at, nodes, all_nodes, Placed, own_range, ranges_of, ranges, type_nodes, declarators_nodes, fields_nodes, item_nodes, defined_nodes, asked_nodes, where_declared, declared_nodes, text_ranges}
use Rattle.hll_meaning.proofs.NodeTrees.{domain_in, reach_in}
use Rattle.hll_meaning.proofs.NodeForms.{links_nodes, branches_nodes, reaches_nodes, ranges_behind, ranges_append, ranges_each, domain_nodes-bounds, domain_nodes-truths, domain_nodes-named, reach_nodes-at, reach_nodes-field, nodes_end, nodes-number, nodes-truth, nodes-path, nodes-chain, nodes-compare, nodes-minus, nodes-not, nodes-choice, nodes-group, nodes-quantified, nodes-pre_alone, nodes-pre_with, nodes-least, nodes-greatest, nodes-size, nodes-starting, nodes-within}

-- ---- parts

-- several expressions
abbrev pub all_ranges : List Expr → In (List Placed)
all_ranges es c = flat_map (λ e. ranges e c) es

-- the operands of links
abbrev pub links_ranges : List Link → In (List Placed)
links_ranges ls c = flat_map (λ l. ranges l.with c) ls

-- the conditions of branches, each before what it chooses
abbrev pub branches_ranges : List Branch → In (List Placed)
branches_ranges bs c = flat_map (λ b. ranges b.when c ++ ranges b.gives c) bs

-- a domain
abbrev pub domain_ranges : Domain → In (List Placed)
domain_ranges d c = ranges_of ((domain_in d).nodes c)

-- a step of a path, and several
abbrev pub reach_ranges : Reach → In (List Placed)
reach_ranges r c = ranges_of ((reach_in r).nodes c)

abbrev pub reaches_ranges : List Reach → In (List Placed)
reaches_ranges rs c = flat_map (λ r. reach_ranges r c) rs

pub all_each : (es : List Expr) (c : Context) → ranges_of (all_nodes es c) ≡ all_ranges es c
all_each es c = ranges_each (λ e. nodes e c) es

links_each : (ls : List Link) (c : Context) → ranges_of (links_nodes ls c) ≡ links_ranges ls c
links_each ls c = ranges_each (λ (l : Link). nodes l.with c) ls

reaches_each : (rs : List Reach) (c : Context) → ranges_of (reaches_nodes rs c) ≡ reaches_ranges rs c
reaches_each rs c = ranges_each (λ r. (reach_in r).nodes c) rs

branches_each : (bs : List Branch) (c : Context) → ranges_of (branches_nodes bs c) ≡ branches_ranges bs c
branches_each [] c = refl
branches_each (b ∷ bs) c =
    let here = ranges_append (nodes b.when c) (nodes b.gives c) in
    let there = branches_each bs c in
    ranges_append (nodes b.when c ++ nodes b.gives c) (branches_nodes bs c) ∙ (λ i. here i ++ there i)

-- a node behind two lists of nodes
behind_both : (ms ns : List Node) (n : Node) (ps qs : List Placed) → ranges_of ms ≡ ps → ranges_of ns ≡ qs → ranges_of ((ms ++ ns) ++ (n ∷ [])) ≡ (ps ++ qs) ++ own_range n
behind_both ms ns n ps qs p q = ranges_behind (ms ++ ns) n ∙ ap (λ rs. rs ++ own_range n) (ranges_append ms ns) ∙ (λ i. (p i ++ q i) ++ own_range n)

-- a node behind one list of nodes
behind_one : (ms : List Node) (n : Node) (ps : List Placed) → ranges_of ms ≡ ps → ranges_of (ms ++ (n ∷ [])) ≡ ps ++ own_range n
behind_one ms n ps p = ranges_behind ms n ∙ (λ i. p i ++ own_range n)

-- ---- the ranges of each form

pub ranges-number : (e : Expr) (n : ℤ) → e.form ≡ Number n → (c : Context) → ranges e c ≡ own_range (node_at e c)
ranges-number e n is c = ap ranges_of (nodes-number e n is c) ∙ append-nil (own_range (node_at e c))

pub ranges-truth : (e : Expr) (b : Bool) → e.form ≡ Truth b → (c : Context) → ranges e c ≡ own_range (node_at e c)
ranges-truth e b is c = ap ranges_of (nodes-truth e b is c) ∙ append-nil (own_range (node_at e c))

pub ranges-path : (e : Expr) (n : Name) (rs : List Reach) → e.form ≡ Path n rs → (c : Context) → ranges e c ≡ reaches_ranges rs c ++ own_range (node_at e c)
ranges-path e n rs is c = ap ranges_of (nodes-path e n rs is c) ∙ behind_one _ (node_at e c) _ (reaches_each rs c)

pub ranges-chain : (e : Expr) (first : Expr) (ls : List Link) → e.form ≡ Chain first ls → (c : Context) → ranges e c ≡ (ranges first c ++ links_ranges ls c) ++ own_range (node_at e c)
ranges-chain e first ls is c = ap ranges_of (nodes-chain e first ls is c) ∙ behind_both _ _ (node_at e c) _ _ refl (links_each ls c)

pub ranges-compare : (e : Expr) (o : Cmp) (a b : Expr) → e.form ≡ Compare o a b → (c : Context) → ranges e c ≡ (ranges a c ++ ranges b c) ++ own_range (node_at e c)
ranges-compare e o a b is c = ap ranges_of (nodes-compare e o a b is c) ∙ behind_both _ _ (node_at e c) _ _ refl refl

pub ranges-minus : (e : Expr) (inner : Expr) → e.form ≡ Minus inner → (c : Context) → ranges e c ≡ ranges inner c ++ own_range (node_at e c)
ranges-minus e inner is c = ap ranges_of (nodes-minus e inner is c) ∙ behind_one _ (node_at e c) _ refl

pub ranges-not : (e : Expr) (inner : Expr) → e.form ≡ Not inner → (c : Context) → ranges e c ≡ ranges inner c ++ own_range (node_at e c)
ranges-not e inner is c = ap ranges_of (nodes-not e inner is c) ∙ behind_one _ (node_at e c) _ refl

pub ranges-choice : (e : Expr) (bs : List Branch) (otherwise : Expr) → e.form ≡ Choice bs otherwise → (c : Context) → ranges e c ≡ (branches_ranges bs c ++ ranges otherwise c) ++ own_range (node_at e c)
ranges-choice e bs otherwise is c = ap ranges_of (nodes-choice e bs otherwise is c) ∙ behind_both _ _ (node_at e c) _ _ (branches_each bs c) refl

pub ranges-group : (e : Expr) (es : List Expr) → e.form ≡ Group es → (c : Context) → ranges e c ≡ all_ranges es c ++ own_range (node_at e c)
ranges-group e es is c = ap ranges_of (nodes-group e es is c) ∙ behind_one _ (node_at e c) _ (all_each es c)

pub ranges-quantified : (e : Expr) (q : Quant) (n : Name) (d : Domain) (body : Expr) → e.form ≡ Quantified q n d body → (c : Context) → ranges e c ≡ (domain_ranges d c ++ ranges body (inside_bind n.text (domain_said d c).kind c)) ++ own_range (node_at e c)
ranges-quantified e q n d body is c = ap ranges_of (nodes-quantified e q n d body is c) ∙ behind_both _ _ (node_at e c) _ _ refl refl

pub ranges-pre_alone : (e : Expr) (body : Expr) → e.form ≡ Pre body None → (c : Context) → ranges e c ≡ ranges body c ++ own_range (node_at e c)
ranges-pre_alone e body is c = ap ranges_of (nodes-pre_alone e body is c) ∙ behind_one _ (node_at e c) _ refl

pub ranges-pre_with : (e : Expr) (body first : Expr) → e.form ≡ Pre body (Some first) → (c : Context) → ranges e c ≡ (ranges body c ++ ranges first c) ++ own_range (node_at e c)
ranges-pre_with e body first is c = ap ranges_of (nodes-pre_with e body first is c) ∙ behind_both _ _ (node_at e c) _ _ refl refl

pub ranges-least : (e : Expr) (es : List Expr) → e.form ≡ Least es → (c : Context) → ranges e c ≡ all_ranges es c ++ own_range (node_at e c)
ranges-least e es is c = ap ranges_of (nodes-least e es is c) ∙ behind_one _ (node_at e c) _ (all_each es c)

pub ranges-greatest : (e : Expr) (es : List Expr) → e.form ≡ Greatest es → (c : Context) → ranges e c ≡ all_ranges es c ++ own_range (node_at e c)
ranges-greatest e es is c = ap ranges_of (nodes-greatest e es is c) ∙ behind_one _ (node_at e c) _ (all_each es c)

pub ranges-size : (e : Expr) (inner : Expr) → e.form ≡ Size inner → (c : Context) → ranges e c ≡ ranges inner c ++ own_range (node_at e c)
ranges-size e inner is c = ap ranges_of (nodes-size e inner is c) ∙ behind_one _ (node_at e c) _ refl

pub ranges-starting : (e : Expr) → e.form ≡ Starting → (c : Context) → ranges e c ≡ own_range (node_at e c)
ranges-starting e is c = ap ranges_of (nodes-starting e is c) ∙ append-nil (own_range (node_at e c))

pub ranges-within : (e : Expr) (inner : Expr) (i : Interval) → e.form ≡ Within inner i → (c : Context) → ranges e c ≡ ranges inner c ++ own_range (node_at e c)
ranges-within e inner i is c = ap ranges_of (nodes-within e inner i is c) ∙ behind_one _ (node_at e c) _ refl

-- the range of an expression itself stands last
pub ranges_end : (e : Expr) (c : Context) → (ps : List Placed) × (ranges e c ≡ ps ++ own_range (node_at e c))
ranges_end e c =
    let p = nodes_end e c in
    (ranges_of p.0, ap ranges_of p.1 ∙ ranges_behind p.0 (node_at e c))

-- ---- domains and steps of paths

pub domain_ranges-bounds : (a b : Expr) (c : Context) → domain_ranges (Bounds a b) c ≡ ranges a (for_constant c) ++ ranges b (for_constant c)
domain_ranges-bounds a b c = ap ranges_of (domain_nodes-bounds a b c) ∙ ranges_append (nodes a (for_constant c)) (nodes b (for_constant c))

pub domain_ranges-truths : (c : Context) → domain_ranges Truths c ≡ []
domain_ranges-truths c = ap ranges_of (domain_nodes-truths c)

pub domain_ranges-named : (n : Name) (c : Context) → domain_ranges (Named n) c ≡ []
domain_ranges-named n c = ap ranges_of (domain_nodes-named n c)

pub reach_ranges-at : (e : Expr) (c : Context) → reach_ranges (At e) c ≡ ranges e c
reach_ranges-at e c = ap ranges_of (reach_nodes-at e c)

pub reach_ranges-field : (n : Name) (c : Context) → reach_ranges (Field n) c ≡ []
reach_ranges-field n c = ap ranges_of (reach_nodes-field n c)

-- ---- types and items

-- the bounds of a type
pub type_ranges-bounds : (a b : Expr) (c : Context) → ranges_of (type_nodes (written.Bounds a b) c) ≡ ranges a c ++ ranges b c
type_ranges-bounds a b c = ranges_append (nodes a c) (nodes b c)

-- a type and the dimensions behind it
pub declared_ranges : (ty : TypeText) (dims : List Expr) (c : Context) → ranges_of (type_nodes ty c ++ all_nodes dims c) ≡ ranges_of (type_nodes ty c) ++ all_ranges dims c
declared_ranges ty dims c = ranges_append (type_nodes ty c) (all_nodes dims c) ∙ ap (λ ps. ranges_of (type_nodes ty c) ++ ps) (all_each dims c)

-- the dimensions of declarators
pub declarators_each : (ds : List Declarator) (c : Context) → ranges_of (declarators_nodes ds c) ≡ flat_map (λ d. all_ranges d.dims c) ds
declarators_each [] c = refl
declarators_each (d ∷ ds) c =
    let here = all_each d.dims c in
    let there = declarators_each ds c in
    ranges_append (all_nodes d.dims c) (declarators_nodes ds c) ∙ (λ i. here i ++ there i)

-- the types and dimensions of fields
pub fields_each : (fs : List TypedField) (c : Context) → ranges_of (fields_nodes fs c) ≡ flat_map (λ f. ranges_of (type_nodes f.ty c) ++ all_ranges f.of.dims c) fs
fields_each [] c = refl
fields_each (f ∷ fs) c =
    let here = declared_ranges f.ty f.of.dims c in
    let there = fields_each fs c in
    ranges_append (type_nodes f.ty c ++ all_nodes f.of.dims c) (fields_nodes fs c) ∙ (λ i. here i ++ there i)

-- the variables of a declaration: their type, and then their dimensions
pub variables_ranges : (input : Bool) (decl : Decl) (c : Context) → ranges_of (item_nodes (variables_of input decl) c) ≡ ranges_of (type_nodes decl.ty c) ++ flat_map (λ d. all_ranges d.dims c) decl.names
variables_ranges input decl c = ranges_append (type_nodes decl.ty c) (declarators_nodes decl.names c) ∙ ap (λ ps. ranges_of (type_nodes decl.ty c) ++ ps) (declarators_each decl.names c)

-- a definition of a variable: its expressions, under the index names of its left side
pub defined_ranges : (all : Names) (d : Def) (input : Bool) (k : Kind) → under d.name.text all ≡ Some (variable input k) →
    ranges_of (asked_nodes all (defines d)) ≡ all_ranges (part_expressions d.part) (asking all (left_side d.indices k).bound)
defined_ranges all d input k is = ap (λ o. ranges_of (defined_nodes all d o)) is ∙ all_each (part_expressions d.part) (asking all (left_side d.indices k).bound)

-- a text: its declarations, and then its definitions and demands
pub text_ranges_parts : (m : HllModel) → text_ranges m ≡ flat_map (λ it. ranges_of (item_nodes it (where_declared (names m)))) (items m) ++ flat_map (λ q. ranges_of (asked_nodes (names m) q)) (flat_map asked_in m.sections)
text_ranges_parts m =
    let here = ranges_each (λ it. item_nodes it (where_declared (names m))) (items m) in
    let there = ranges_each (asked_nodes (names m)) (flat_map asked_in m.sections) in
    ranges_append (declared_nodes (names m) (items m)) (flat_map (asked_nodes (names m)) (flat_map asked_in m.sections)) ∙ (λ i. here i ++ there i)
