-- The tree of an expression's piece is the expression itself.
use Rattle.std.proofs.Common.{◌≡◌, ℕ, Some, None, List, [], ◌∷◌, map, refl, ap, subst, ◌∙◌}
use Rattle.hll_tree.specs.declared.tree.Branch.{Branch, roll-Branch, fold-Branch, fold-roll-Branch}
use Rattle.hll_tree.specs.declared.tree.Domain.{Domain, Domain-F, roll-Domain, fold-Domain, fold-roll-Domain, ind-Domain}
use Rattle.hll_tree.specs.declared.tree.Domain.TheFolds.{map-Domain, map-Form, map-Reach}
use Rattle.hll_tree.specs.declared.tree.Expr.{Expr, roll-Expr, fold-roll-Expr, ind-Expr}
use Rattle.hll_tree.specs.declared.tree.Form.{Form, Form-F, roll-Form, fold-Form, fold-roll-Form}
use Rattle.hll_tree.specs.declared.tree.Link.{Link, roll-Link, fold-Link, fold-roll-Link}
use Rattle.hll_tree.specs.declared.tree.Name.{Name}
use Rattle.hll_tree.specs.declared.tree.Op.{Op}
use Rattle.hll_tree.specs.declared.tree.Reach.{Reach, Reach-F, roll-Reach, fold-Reach, fold-roll-Reach}
use Rattle.hll_meaning.specs.Nodes.{Piece, domain_piece, form_piece, reach_piece, branch_piece, expression_piece, piece_of}

-- the other parts of trees as pieces
unfoldable pub domain_in : Domain → Piece Domain
domain_in = fold-Domain (Piece Domain) (Piece Form) (Piece Reach) (Piece Branch) (Piece Expr) (Piece Link) domain_piece form_piece reach_piece (λ b. branch_piece b.when b.gives) (λ e. expression_piece e.at e.form) (λ link. record { tree = roll-Link (record { op = link.op; at = link.at; with = link.with.tree }); nodes = link.with.nodes })

unfoldable pub form_in : Form → Piece Form
form_in = fold-Form (Piece Domain) (Piece Form) (Piece Reach) (Piece Branch) (Piece Expr) (Piece Link) domain_piece form_piece reach_piece (λ b. branch_piece b.when b.gives) (λ e. expression_piece e.at e.form) (λ link. record { tree = roll-Link (record { op = link.op; at = link.at; with = link.with.tree }); nodes = link.with.nodes })

unfoldable pub reach_in : Reach → Piece Reach
reach_in = fold-Reach (Piece Domain) (Piece Form) (Piece Reach) (Piece Branch) (Piece Expr) (Piece Link) domain_piece form_piece reach_piece (λ b. branch_piece b.when b.gives) (λ e. expression_piece e.at e.form) (λ link. record { tree = roll-Link (record { op = link.op; at = link.at; with = link.with.tree }); nodes = link.with.nodes })

unfoldable pub branch_in : Branch → Piece Branch
branch_in = fold-Branch (Piece Domain) (Piece Form) (Piece Reach) (Piece Branch) (Piece Expr) (Piece Link) domain_piece form_piece reach_piece (λ b. branch_piece b.when b.gives) (λ e. expression_piece e.at e.form) (λ link. record { tree = roll-Link (record { op = link.op; at = link.at; with = link.with.tree }); nodes = link.with.nodes })

unfoldable pub link_in : Link → Piece Link
link_in = fold-Link (Piece Domain) (Piece Form) (Piece Reach) (Piece Branch) (Piece Expr) (Piece Link) domain_piece form_piece reach_piece (λ b. branch_piece b.when b.gives) (λ e. expression_piece e.at e.form) (λ link. record { tree = roll-Link (record { op = link.op; at = link.at; with = link.with.tree }); nodes = link.with.nodes })

-- a layer of a form, and the same with the pieces of its parts
abbrev Layer : Type 0
Layer = Form-F Domain Form Reach Branch Expr Link

abbrev pieces : Layer → Form-F (Piece Domain) (Piece Form) (Piece Reach) (Piece Branch) (Piece Expr) (Piece Link)
pieces = map-Form Domain Form Reach Branch Expr Link (Piece Domain) (Piece Form) (Piece Reach) (Piece Branch) (Piece Expr) (Piece Link) domain_in form_in reach_in branch_in piece_of link_in

-- the trees of pieces
abbrev trees : Form-F (Piece Domain) (Piece Form) (Piece Reach) (Piece Branch) (Piece Expr) (Piece Link) → Layer
trees = map-Form (Piece Domain) (Piece Form) (Piece Reach) (Piece Branch) (Piece Expr) (Piece Link) Domain Form Reach Branch Expr Link (λ p. p.tree) (λ p. p.tree) (λ p. p.tree) (λ p. p.tree) (λ p. p.tree) (λ p. p.tree)

in_form : (y : Layer) → form_in (roll-Form y) ≡ form_piece (pieces y)
unfolding piece_of domain_in form_in reach_in branch_in link_in
in_form y = fold-roll-Form _ _ _ _ _ _ _ _ _ _ _ _ y

in_bounds : (a b : Expr) → domain_in (roll-Domain (Domain-F.Bounds a b)) ≡ domain_piece (Domain-F.Bounds (piece_of a) (piece_of b))
unfolding piece_of domain_in
in_bounds a b = fold-roll-Domain _ _ _ _ _ _ _ _ _ _ _ _ (Domain-F.Bounds a b)

in_truths : domain_in (roll-Domain Domain-F.Bool) ≡ domain_piece Domain-F.Bool
unfolding domain_in
in_truths = fold-roll-Domain _ _ _ _ _ _ _ _ _ _ _ _ Domain-F.Bool

in_named : (n : Name) → domain_in (roll-Domain (Domain-F.Named n)) ≡ domain_piece (Domain-F.Named n)
unfolding domain_in
in_named n = fold-roll-Domain _ _ _ _ _ _ _ _ _ _ _ _ (Domain-F.Named n)

in_at : (e : Expr) → reach_in (roll-Reach (Reach-F.At e)) ≡ reach_piece (Reach-F.At (piece_of e))
unfolding piece_of reach_in
in_at e = fold-roll-Reach _ _ _ _ _ _ _ _ _ _ _ _ (Reach-F.At e)

in_field : (n : Name) → reach_in (roll-Reach (Reach-F.Field n)) ≡ reach_piece (Reach-F.Field n)
unfolding reach_in
in_field n = fold-roll-Reach _ _ _ _ _ _ _ _ _ _ _ _ (Reach-F.Field n)

in_branch : (when gives : Expr) → branch_in (roll-Branch (record { when = when; gives = gives })) ≡ branch_piece (piece_of when) (piece_of gives)
unfolding piece_of branch_in
in_branch when gives = fold-roll-Branch _ _ _ _ _ _ _ _ _ _ _ _ (record { when = when; gives = gives })

in_expr : (at : ℕ) (f : Form) → piece_of (roll-Expr (record { at = at; form = f })) ≡ expression_piece at (form_in f)
unfolding piece_of form_in
in_expr at f = fold-roll-Expr _ _ _ _ _ _ _ _ _ _ _ _ (record { at = at; form = f })

in_link : (o : Op) (at : ℕ) (with : Expr) → (link_in (roll-Link (record { op = o; at = at; with = with }))).tree ≡ roll-Link (record { op = o; at = at; with = (piece_of with).tree })
unfolding piece_of link_in
in_link o at with = ap (λ (p : Piece Link). p.tree) (fold-roll-Link _ _ _ _ _ _ _ _ _ _ _ _ (record { op = o; at = at; with = with }))

-- ---- any depth

abbrev DomainIsTree : Domain → Type 0
DomainIsTree d = (domain_in d).tree ≡ d

abbrev FormIsTree : Form → Type 0
FormIsTree f = (form_in f).tree ≡ f

abbrev ReachIsTree : Reach → Type 0
ReachIsTree r = (reach_in r).tree ≡ r

abbrev BranchIsTree : Branch → Type 0
BranchIsTree b = (branch_in b).tree ≡ b

abbrev IsTree : Expr → Type 0
IsTree e = (piece_of e).tree ≡ e

abbrev LinkIsTree : Link → Type 0
LinkIsTree l = (link_in l).tree ≡ l

abbrev D : Type 0
D = (d : Domain) × DomainIsTree d

abbrev F : Type 0
F = (f : Form) × FormIsTree f

abbrev R : Type 0
R = (r : Reach) × ReachIsTree r

abbrev B : Type 0
B = (b : Branch) × BranchIsTree b

abbrev E : Type 0
E = (e : Expr) × IsTree e

abbrev L : Type 0
L = (l : Link) × LinkIsTree l

abbrev forms : Form-F D F R B E L → Layer
forms = map-Form D F R B E L Domain Form Reach Branch Expr Link (λ z. z.0) (λ z. z.0) (λ z. z.0) (λ z. z.0) (λ z. z.0) (λ z. z.0)

-- the same over lists of parts
all_trees : {X : Type 0} (f : X → Piece X) (zs : List ((x : X) × ((f x).tree ≡ x))) → map (λ (p : Piece X). p.tree) (map f (map (λ z. z.0) zs)) ≡ map (λ z. z.0) zs
all_trees f [] = refl
all_trees f (z ∷ zs) =
    let here = z.1 in
    let there = all_trees f zs in
    λ i. here i ∷ there i

parts_same : (y : Form-F D F R B E L) → trees (pieces (forms y)) ≡ forms y
parts_same (Form-F.Number n) = refl
parts_same (Form-F.Truth b) = refl
parts_same (Form-F.Path n rs) = let p = all_trees reach_in rs in λ i. Form-F.Path n (p i)
parts_same (Form-F.Chain x ls) = let p = x.1 in let q = all_trees link_in ls in λ i. Form-F.Chain (p i) (q i)
parts_same (Form-F.Compare o x y) = let p = x.1 in let q = y.1 in λ i. Form-F.Compare o (p i) (q i)
parts_same (Form-F.Minus x) = let p = x.1 in λ i. Form-F.Minus (p i)
parts_same (Form-F.Not x) = let p = x.1 in λ i. Form-F.Not (p i)
parts_same (Form-F.Choice bs x) = let p = all_trees branch_in bs in let q = x.1 in λ i. Form-F.Choice (p i) (q i)
parts_same (Form-F.Group xs) = let p = all_trees piece_of xs in λ i. Form-F.Group (p i)
parts_same (Form-F.Quant q n d x) = let p = d.1 in let r = x.1 in λ i. Form-F.Quant q n (p i) (r i)
parts_same (Form-F.Pre x None) = let p = x.1 in λ i. Form-F.Pre (p i) None
parts_same (Form-F.Pre x (Some first)) = let p = x.1 in let q = first.1 in λ i. Form-F.Pre (p i) (Some (q i))
parts_same (Form-F.Least xs) = let p = all_trees piece_of xs in λ i. Form-F.Least (p i)
parts_same (Form-F.Greatest xs) = let p = all_trees piece_of xs in λ i. Form-F.Greatest (p i)
parts_same (Form-F.Size x) = let p = x.1 in λ i. Form-F.Size (p i)
parts_same Form-F.Starting = refl
parts_same (Form-F.Within x between) = let p = x.1 in λ i. Form-F.Within (p i) between

form_tree : (y : Form-F D F R B E L) → (form_in (roll-Form (forms y))).tree ≡ roll-Form (forms y)
form_tree y = ap (λ (p : Piece Form). p.tree) (in_form (forms y)) ∙ ap roll-Form (parts_same y)

domain_tree : (y : Domain-F D F R B E L) → DomainIsTree (roll-Domain (map-Domain D F R B E L Domain Form Reach Branch Expr Link (λ z. z.0) (λ z. z.0) (λ z. z.0) (λ z. z.0) (λ z. z.0) (λ z. z.0) y))
domain_tree (Domain-F.Bounds a b) =
    let p = a.1 in
    let q = b.1 in
    ap (λ (d : Piece Domain). d.tree) (in_bounds a.0 b.0) ∙ (λ i. roll-Domain (Domain-F.Bounds (p i) (q i)))
domain_tree Domain-F.Bool = ap (λ (d : Piece Domain). d.tree) in_truths
domain_tree (Domain-F.Named n) = ap (λ (d : Piece Domain). d.tree) (in_named n)

reach_tree : (y : Reach-F D F R B E L) → ReachIsTree (roll-Reach (map-Reach D F R B E L Domain Form Reach Branch Expr Link (λ z. z.0) (λ z. z.0) (λ z. z.0) (λ z. z.0) (λ z. z.0) (λ z. z.0) y))
reach_tree (Reach-F.At e) =
    let p = e.1 in
    ap (λ (r : Piece Reach). r.tree) (in_at e.0) ∙ (λ i. roll-Reach (Reach-F.At (p i)))
reach_tree (Reach-F.Field n) = ap (λ (r : Piece Reach). r.tree) (in_field n)

branch_tree : (when gives : E) → BranchIsTree (roll-Branch (record { when = when.0; gives = gives.0 }))
branch_tree when gives =
    let p = when.1 in
    let q = gives.1 in
    ap (λ (b : Piece Branch). b.tree) (in_branch when.0 gives.0) ∙ (λ i. roll-Branch (record { when = p i; gives = q i }))

expr_tree : (at : ℕ) (f : F) → IsTree (roll-Expr (record { at = at; form = f.0 }))
expr_tree at f =
    let p = f.1 in
    ap (λ (e : Piece Expr). e.tree) (in_expr at f.0) ∙ (λ i. roll-Expr (record { at = at; form = p i }))

link_tree : (o : Op) (at : ℕ) (e : E) → LinkIsTree (roll-Link (record { op = o; at = at; with = e.0 }))
link_tree o at e =
    let p = e.1 in
    in_link o at e.0 ∙ (λ i. roll-Link (record { op = o; at = at; with = p i }))

pub tree_is : (e : Expr) → (piece_of e).tree ≡ e
tree_is = ind-Expr DomainIsTree FormIsTree ReachIsTree BranchIsTree IsTree LinkIsTree
    (λ x y is. subst (λ z. DomainIsTree (roll-Domain z)) is (domain_tree y))
    (λ x y is. subst (λ z. FormIsTree (roll-Form z)) is (form_tree y))
    (λ x y is. subst (λ z. ReachIsTree (roll-Reach z)) is (reach_tree y))
    (λ x y is. subst (λ z. BranchIsTree (roll-Branch z)) is (branch_tree y.when y.gives))
    (λ x y is. subst (λ z. IsTree (roll-Expr z)) is (expr_tree y.at y.form))
    (λ x y is. subst (λ z. LinkIsTree (roll-Link z)) is (link_tree y.op y.at y.with))

pub domain_is : (d : Domain) → (domain_in d).tree ≡ d
domain_is = ind-Domain DomainIsTree FormIsTree ReachIsTree BranchIsTree IsTree LinkIsTree
    (λ x y is. subst (λ z. DomainIsTree (roll-Domain z)) is (domain_tree y))
    (λ x y is. subst (λ z. FormIsTree (roll-Form z)) is (form_tree y))
    (λ x y is. subst (λ z. ReachIsTree (roll-Reach z)) is (reach_tree y))
    (λ x y is. subst (λ z. BranchIsTree (roll-Branch z)) is (branch_tree y.when y.gives))
    (λ x y is. subst (λ z. IsTree (roll-Expr z)) is (expr_tree y.at y.form))
    (λ x y is. subst (λ z. LinkIsTree (roll-Link z)) is (link_tree y.op y.at y.with))
