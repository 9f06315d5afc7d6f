-- The expressions that stand in an expression, and their ranges, form by form.
use Rattle.std.proofs.Common.{◌≡◌, ℤ, Bool, Some, None, List, [], ◌∷◌, ◌++◌, map, refl, sym, ap, ◌∙◌, append-nil}
use Rattle.std.specs.List.{flat_map}
use Rattle.std.proofs.lemmas.Grind.{flat_map-append}
use Rattle.intervals.specs.declared.interval.Interval.{Interval}
use Rattle.hll_tree.specs.declared.tree.Branch.{Branch, fold_out-Branch}
use Rattle.hll_tree.specs.declared.tree.Cmp.{Cmp}
use Rattle.hll_tree.specs.declared.tree.Domain.{Domain, Bounds, Bool as Truths, Named, fold_out-Domain}
use Rattle.hll_tree.specs.declared.tree.Domain.TheVariants.{outs-Bounds, outs-Bool, outs-Named}
use Rattle.hll_tree.specs.declared.tree.Expr.{Expr, roll-Expr, fold_out-Expr}
use Rattle.hll_tree.specs.declared.tree.Form.{Form, Form-F, Number, Truth, Path, Chain, Compare, Minus, Not, Choice, Group, Quant as Quantified, Pre, Least, Greatest, Size, Starting, Within, fold_out-Form}
use Rattle.hll_tree.specs.declared.tree.Form.TheVariants.{outs-Number, outs-Truth, outs-Path, outs-Chain, outs-Compare, outs-Minus, outs-Not, outs-Choice, outs-Group, outs-Quant, outs-Pre, outs-Least, outs-Greatest, outs-Size, outs-Starting, outs-Within}
use Rattle.hll_tree.specs.declared.tree.Link.{Link, fold_out-Link}
use Rattle.hll_tree.specs.declared.tree.Name.{Name}
use Rattle.hll_tree.specs.declared.tree.Quant.{Quant}
use Rattle.hll_tree.specs.declared.tree.Reach.{Reach, At, Field, fold_out-Reach}
use Rattle.hll_tree.specs.declared.tree.Reach.TheVariants.{outs-At, outs-Field}
use Rattle.hll_meaning.specs.Judging.{Context, In, for_constant, inside_bind, domain_said}
use Rattle.hll_meaning.specs.Nodes.{Node, node_at, Piece, nodes_of, form_piece, expression_piece, piece_of, nodes, all_nodes, own_range, ranges_of}
use Rattle.hll_meaning.proofs.NodeTrees.{domain_in, form_in, reach_in, branch_in, link_in, tree_is, domain_is}

-- ---- an expression by its form

piece_opened : (e : Expr) → piece_of e ≡ expression_piece e.at (form_in e.form)
unfolding piece_of form_in
piece_opened e = fold_out-Expr _ _ _ _ _ _ _ _ _ _ _ _ e

-- an expression stands behind the parts of its form
nodes-form : (e : Expr) (f : Form) → e.form ≡ f → (c : Context) → nodes e c ≡ (form_in f).nodes c ++ (node_at e c ∷ [])
nodes-form e f is c =
    (λ i. (opened i).nodes c)
    ∙ (λ i. (form_in e.form).nodes c ++ (node_at (itself i) c ∷ []))
    ∙ ap (λ (g : Form). (form_in g).nodes c ++ (node_at e c ∷ [])) is
  where
    opened : piece_of e ≡ expression_piece e.at (form_in e.form)
    opened = piece_opened e

    itself : roll-Expr (record { at = e.at; form = (form_in e.form).tree }) ≡ e
    itself = sym (ap (λ (p : Piece Expr). p.tree) opened) ∙ tree_is e

-- the same, by the form opened once
by_form : (e : Expr) (f : Form) (p : Piece Form) → e.form ≡ f → form_in f ≡ p → (c : Context) → nodes e c ≡ p.nodes c ++ (node_at e c ∷ [])
by_form e f p is opened c = nodes-form e f is c ∙ ap (λ (q : Piece Form). q.nodes c ++ (node_at e c ∷ [])) opened

-- ---- parts that come several times

-- the operands of links
abbrev pub links_nodes : List Link → In (List Node)
links_nodes ls c = flat_map (λ l. nodes l.with c) ls

-- the conditions of branches, each before what it chooses
abbrev pub branches_nodes : List Branch → In (List Node)
branches_nodes bs c = flat_map (λ b. nodes b.when c ++ nodes b.gives c) bs

-- the indices of a path
abbrev pub reaches_nodes : List Reach → In (List Node)
reaches_nodes rs c = flat_map (λ r. (reach_in r).nodes c) rs

link_opened : (l : Link) (c : Context) → (link_in l).nodes c ≡ nodes l.with c
unfolding piece_of link_in
link_opened l c = ap (λ (p : Piece Link). p.nodes c) (fold_out-Link _ _ _ _ _ _ _ _ _ _ _ _ l)

branch_opened : (b : Branch) (c : Context) → (branch_in b).nodes c ≡ nodes b.when c ++ nodes b.gives c
unfolding piece_of branch_in
branch_opened b c = ap (λ (p : Piece Branch). p.nodes c) (fold_out-Branch _ _ _ _ _ _ _ _ _ _ _ _ b)

-- the nodes of pieces are those that are known of each
of_pieces : {X : Type 0} (f : X → Piece X) (g : X → In (List Node)) (c : Context) → ((x : X) → (f x).nodes c ≡ g x c) → (xs : List X) → nodes_of (map f xs) c ≡ flat_map (λ x. g x c) xs
of_pieces f g c same [] = refl
of_pieces f g c same (x ∷ xs) =
    let here = same x in
    let there = of_pieces f g c same xs in
    λ i. here i ++ there i

-- ---- forms as pieces

form_in-number : (n : ℤ) → form_in (Number n) ≡ form_piece (Form-F.Number n)
unfolding piece_of domain_in form_in reach_in branch_in link_in
form_in-number n = fold_out-Form _ _ _ _ _ _ _ _ _ _ _ _ (Number n) ∙ rw (outs-Number n) refl

form_in-truth : (b : Bool) → form_in (Truth b) ≡ form_piece (Form-F.Truth b)
unfolding piece_of domain_in form_in reach_in branch_in link_in
form_in-truth b = fold_out-Form _ _ _ _ _ _ _ _ _ _ _ _ (Truth b) ∙ rw (outs-Truth b) refl

form_in-path : (n : Name) (rs : List Reach) → form_in (Path n rs) ≡ form_piece (Form-F.Path n (map reach_in rs))
unfolding piece_of domain_in form_in reach_in branch_in link_in
form_in-path n rs = fold_out-Form _ _ _ _ _ _ _ _ _ _ _ _ (Path n rs) ∙ rw (outs-Path n rs) refl

form_in-chain : (first : Expr) (ls : List Link) → form_in (Chain first ls) ≡ form_piece (Form-F.Chain (piece_of first) (map link_in ls))
unfolding piece_of domain_in form_in reach_in branch_in link_in
form_in-chain first ls = fold_out-Form _ _ _ _ _ _ _ _ _ _ _ _ (Chain first ls) ∙ rw (outs-Chain first ls) refl

form_in-compare : (o : Cmp) (a b : Expr) → form_in (Compare o a b) ≡ form_piece (Form-F.Compare o (piece_of a) (piece_of b))
unfolding piece_of domain_in form_in reach_in branch_in link_in
form_in-compare o a b = fold_out-Form _ _ _ _ _ _ _ _ _ _ _ _ (Compare o a b) ∙ rw (outs-Compare o a b) refl

form_in-minus : (inner : Expr) → form_in (Minus inner) ≡ form_piece (Form-F.Minus (piece_of inner))
unfolding piece_of domain_in form_in reach_in branch_in link_in
form_in-minus inner = fold_out-Form _ _ _ _ _ _ _ _ _ _ _ _ (Minus inner) ∙ rw (outs-Minus inner) refl

form_in-not : (inner : Expr) → form_in (Not inner) ≡ form_piece (Form-F.Not (piece_of inner))
unfolding piece_of domain_in form_in reach_in branch_in link_in
form_in-not inner = fold_out-Form _ _ _ _ _ _ _ _ _ _ _ _ (Not inner) ∙ rw (outs-Not inner) refl

form_in-choice : (bs : List Branch) (otherwise : Expr) → form_in (Choice bs otherwise) ≡ form_piece (Form-F.Choice (map branch_in bs) (piece_of otherwise))
unfolding piece_of domain_in form_in reach_in branch_in link_in
form_in-choice bs otherwise = fold_out-Form _ _ _ _ _ _ _ _ _ _ _ _ (Choice bs otherwise) ∙ rw (outs-Choice bs otherwise) refl

form_in-group : (es : List Expr) → form_in (Group es) ≡ form_piece (Form-F.Group (map piece_of es))
unfolding piece_of domain_in form_in reach_in branch_in link_in
form_in-group es = fold_out-Form _ _ _ _ _ _ _ _ _ _ _ _ (Group es) ∙ rw (outs-Group es) refl

form_in-quantified : (q : Quant) (n : Name) (d : Domain) (body : Expr) → form_in (Quantified q n d body) ≡ form_piece (Form-F.Quant q n (domain_in d) (piece_of body))
unfolding piece_of domain_in form_in reach_in branch_in link_in
form_in-quantified q n d body = fold_out-Form _ _ _ _ _ _ _ _ _ _ _ _ (Quantified q n d body) ∙ rw (outs-Quant q n d body) refl

form_in-pre_alone : (body : Expr) → form_in (Pre body None) ≡ form_piece (Form-F.Pre (piece_of body) None)
unfolding piece_of domain_in form_in reach_in branch_in link_in
form_in-pre_alone body = fold_out-Form _ _ _ _ _ _ _ _ _ _ _ _ (Pre body None) ∙ rw (outs-Pre body None) refl

form_in-pre_with : (body first : Expr) → form_in (Pre body (Some first)) ≡ form_piece (Form-F.Pre (piece_of body) (Some (piece_of first)))
unfolding piece_of domain_in form_in reach_in branch_in link_in
form_in-pre_with body first = fold_out-Form _ _ _ _ _ _ _ _ _ _ _ _ (Pre body (Some first)) ∙ rw (outs-Pre body (Some first)) refl

form_in-least : (es : List Expr) → form_in (Least es) ≡ form_piece (Form-F.Least (map piece_of es))
unfolding piece_of domain_in form_in reach_in branch_in link_in
form_in-least es = fold_out-Form _ _ _ _ _ _ _ _ _ _ _ _ (Least es) ∙ rw (outs-Least es) refl

form_in-greatest : (es : List Expr) → form_in (Greatest es) ≡ form_piece (Form-F.Greatest (map piece_of es))
unfolding piece_of domain_in form_in reach_in branch_in link_in
form_in-greatest es = fold_out-Form _ _ _ _ _ _ _ _ _ _ _ _ (Greatest es) ∙ rw (outs-Greatest es) refl

form_in-size : (inner : Expr) → form_in (Size inner) ≡ form_piece (Form-F.Size (piece_of inner))
unfolding piece_of domain_in form_in reach_in branch_in link_in
form_in-size inner = fold_out-Form _ _ _ _ _ _ _ _ _ _ _ _ (Size inner) ∙ rw (outs-Size inner) refl

form_in-starting : form_in Starting ≡ form_piece Form-F.Starting
unfolding piece_of domain_in form_in reach_in branch_in link_in
form_in-starting = fold_out-Form _ _ _ _ _ _ _ _ _ _ _ _ (Starting) ∙ rw (outs-Starting) refl

form_in-within : (inner : Expr) (i : Interval) → form_in (Within inner i) ≡ form_piece (Form-F.Within (piece_of inner) i)
unfolding piece_of domain_in form_in reach_in branch_in link_in
form_in-within inner i = fold_out-Form _ _ _ _ _ _ _ _ _ _ _ _ (Within inner i) ∙ rw (outs-Within inner i) refl

-- ---- the nodes of each form

pub nodes-number : (e : Expr) (n : ℤ) → e.form ≡ Number n → (c : Context) → nodes e c ≡ node_at e c ∷ []
nodes-number e n is c = by_form e _ _ is (form_in-number n) c

pub nodes-truth : (e : Expr) (b : Bool) → e.form ≡ Truth b → (c : Context) → nodes e c ≡ node_at e c ∷ []
nodes-truth e b is c = by_form e _ _ is (form_in-truth b) c

pub nodes-path : (e : Expr) (n : Name) (rs : List Reach) → e.form ≡ Path n rs → (c : Context) → nodes e c ≡ reaches_nodes rs c ++ (node_at e c ∷ [])
nodes-path e n rs is c = by_form e _ _ is (form_in-path n rs) c ∙ ap (λ ns. ns ++ (node_at e c ∷ [])) (of_pieces reach_in (λ r. (reach_in r).nodes) c (λ r. refl) rs)

pub nodes-chain : (e : Expr) (first : Expr) (ls : List Link) → e.form ≡ Chain first ls → (c : Context) → nodes e c ≡ (nodes first c ++ links_nodes ls c) ++ (node_at e c ∷ [])
nodes-chain e first ls is c = by_form e _ _ is (form_in-chain first ls) c ∙ ap (λ ns. (nodes first c ++ ns) ++ (node_at e c ∷ [])) (of_pieces link_in (λ l. nodes l.with) c (λ l. link_opened l c) ls)

pub nodes-compare : (e : Expr) (o : Cmp) (a b : Expr) → e.form ≡ Compare o a b → (c : Context) → nodes e c ≡ (nodes a c ++ nodes b c) ++ (node_at e c ∷ [])
nodes-compare e o a b is c = by_form e _ _ is (form_in-compare o a b) c

pub nodes-minus : (e : Expr) (inner : Expr) → e.form ≡ Minus inner → (c : Context) → nodes e c ≡ nodes inner c ++ (node_at e c ∷ [])
nodes-minus e inner is c = by_form e _ _ is (form_in-minus inner) c

pub nodes-not : (e : Expr) (inner : Expr) → e.form ≡ Not inner → (c : Context) → nodes e c ≡ nodes inner c ++ (node_at e c ∷ [])
nodes-not e inner is c = by_form e _ _ is (form_in-not inner) c

pub nodes-choice : (e : Expr) (bs : List Branch) (otherwise : Expr) → e.form ≡ Choice bs otherwise → (c : Context) → nodes e c ≡ (branches_nodes bs c ++ nodes otherwise c) ++ (node_at e c ∷ [])
nodes-choice e bs otherwise is c = by_form e _ _ is (form_in-choice bs otherwise) c ∙ ap (λ ns. (ns ++ nodes otherwise c) ++ (node_at e c ∷ [])) (of_pieces branch_in (λ b d. nodes b.when d ++ nodes b.gives d) c (λ b. branch_opened b c) bs)

pub nodes-group : (e : Expr) (es : List Expr) → e.form ≡ Group es → (c : Context) → nodes e c ≡ all_nodes es c ++ (node_at e c ∷ [])
nodes-group e es is c = by_form e _ _ is (form_in-group es) c ∙ ap (λ ns. ns ++ (node_at e c ∷ [])) (of_pieces piece_of nodes c (λ e. refl) es)

pub nodes-quantified : (e : Expr) (q : Quant) (n : Name) (d : Domain) (body : Expr) → e.form ≡ Quantified q n d body → (c : Context) → nodes e c ≡ ((domain_in d).nodes c ++ nodes body (inside_bind n.text (domain_said d c).kind c)) ++ (node_at e c ∷ [])
nodes-quantified e q n d body is c = by_form e _ _ is (form_in-quantified q n d body) c ∙ ap (λ x. ((domain_in d).nodes c ++ nodes body (inside_bind n.text (domain_said x c).kind c)) ++ (node_at e c ∷ [])) (domain_is d)

pub nodes-pre_alone : (e : Expr) (body : Expr) → e.form ≡ Pre body None → (c : Context) → nodes e c ≡ nodes body c ++ (node_at e c ∷ [])
nodes-pre_alone e body is c = by_form e _ _ is (form_in-pre_alone body) c

pub nodes-pre_with : (e : Expr) (body first : Expr) → e.form ≡ Pre body (Some first) → (c : Context) → nodes e c ≡ (nodes body c ++ nodes first c) ++ (node_at e c ∷ [])
nodes-pre_with e body first is c = by_form e _ _ is (form_in-pre_with body first) c

pub nodes-least : (e : Expr) (es : List Expr) → e.form ≡ Least es → (c : Context) → nodes e c ≡ all_nodes es c ++ (node_at e c ∷ [])
nodes-least e es is c = by_form e _ _ is (form_in-least es) c ∙ ap (λ ns. ns ++ (node_at e c ∷ [])) (of_pieces piece_of nodes c (λ e. refl) es)

pub nodes-greatest : (e : Expr) (es : List Expr) → e.form ≡ Greatest es → (c : Context) → nodes e c ≡ all_nodes es c ++ (node_at e c ∷ [])
nodes-greatest e es is c = by_form e _ _ is (form_in-greatest es) c ∙ ap (λ ns. ns ++ (node_at e c ∷ [])) (of_pieces piece_of nodes c (λ e. refl) es)

pub nodes-size : (e : Expr) (inner : Expr) → e.form ≡ Size inner → (c : Context) → nodes e c ≡ nodes inner c ++ (node_at e c ∷ [])
nodes-size e inner is c = by_form e _ _ is (form_in-size inner) c

pub nodes-starting : (e : Expr) → e.form ≡ Starting → (c : Context) → nodes e c ≡ node_at e c ∷ []
nodes-starting e is c = by_form e _ _ is form_in-starting c

pub nodes-within : (e : Expr) (inner : Expr) (i : Interval) → e.form ≡ Within inner i → (c : Context) → nodes e c ≡ nodes inner c ++ (node_at e c ∷ [])
nodes-within e inner i is c = by_form e _ _ is (form_in-within inner i) c

-- ---- domains and steps of paths

pub domain_nodes-bounds : (a b : Expr) (c : Context) → (domain_in (Bounds a b)).nodes c ≡ nodes a (for_constant c) ++ nodes b (for_constant c)
unfolding piece_of domain_in
domain_nodes-bounds a b c = ap (λ (p : Piece Domain). p.nodes c) (fold_out-Domain _ _ _ _ _ _ _ _ _ _ _ _ (Bounds a b)) ∙ rw (outs-Bounds a b) refl

pub domain_nodes-truths : (c : Context) → (domain_in Truths).nodes c ≡ []
unfolding domain_in
domain_nodes-truths c = ap (λ (p : Piece Domain). p.nodes c) (fold_out-Domain _ _ _ _ _ _ _ _ _ _ _ _ Truths) ∙ rw outs-Bool refl

pub domain_nodes-named : (n : Name) (c : Context) → (domain_in (Named n)).nodes c ≡ []
unfolding domain_in
domain_nodes-named n c = ap (λ (p : Piece Domain). p.nodes c) (fold_out-Domain _ _ _ _ _ _ _ _ _ _ _ _ (Named n)) ∙ rw (outs-Named n) refl

pub reach_nodes-at : (e : Expr) (c : Context) → (reach_in (At e)).nodes c ≡ nodes e c
unfolding piece_of reach_in
reach_nodes-at e c = ap (λ (p : Piece Reach). p.nodes c) (fold_out-Reach _ _ _ _ _ _ _ _ _ _ _ _ (At e)) ∙ rw (outs-At e) refl

pub reach_nodes-field : (n : Name) (c : Context) → (reach_in (Field n)).nodes c ≡ []
unfolding reach_in
reach_nodes-field n c = ap (λ (p : Piece Reach). p.nodes c) (fold_out-Reach _ _ _ _ _ _ _ _ _ _ _ _ (Field n)) ∙ rw (outs-Field n) refl

-- ---- ranges of lists of nodes

-- those of a node behind others
pub ranges_behind : (ns : List Node) (n : Node) → ranges_of (ns ++ (n ∷ [])) ≡ ranges_of ns ++ own_range n
ranges_behind ns n = flat_map-append own_range ns (n ∷ []) ∙ ap (λ ps. ranges_of ns ++ ps) (append-nil (own_range n))

-- those of nodes one after the other
pub ranges_append : (ms ns : List Node) → ranges_of (ms ++ ns) ≡ ranges_of ms ++ ranges_of ns
ranges_append ms ns = flat_map-append own_range ms ns

-- those of each of several things
pub ranges_each : {X : Type 0} (f : X → List Node) (xs : List X) → ranges_of (flat_map f xs) ≡ flat_map (λ x. ranges_of (f x)) xs
ranges_each f [] = refl
ranges_each f (x ∷ xs) = ranges_append (f x) (flat_map f xs) ∙ ap (λ ps. ranges_of (f x) ++ ps) (ranges_each f xs)

-- ---- an expression stands last of its nodes

pub nodes_end : (e : Expr) (c : Context) → (ns : List Node) × (nodes e c ≡ ns ++ (node_at e c ∷ []))
nodes_end e c = ((form_in e.form).nodes c, nodes-form e e.form refl c)
