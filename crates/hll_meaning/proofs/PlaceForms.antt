-- The places of the expressions that stand in an expression, by its parts.
use Rattle.std.proofs.Common.{◌≡◌, ℕ, List, [], ◌∷◌, ◌++◌, map, refl, ap, ◌∙◌, arith}
use Rattle.std.specs.List.{flat_map}
use Rattle.std.proofs.lemmas.List.{map-append}
use Rattle.std.proofs.lemmas.List.Concat.{flat_map-append}
use Rattle.hll_tree.specs.declared.tree.Branch.{Branch}
use Rattle.hll_tree.specs.declared.tree.Domain.{Domain, Bounds, Bool as Truths, Named}
use Rattle.hll_tree.specs.declared.tree.Expr.{Expr}
use Rattle.hll_tree.specs.declared.tree.Name.{Name}
use Rattle.hll_tree.specs.declared.tree.Reach.{Reach, At, Field}
use Rattle.hll_meaning.specs.Judging.{Context, In, for_constant}
use Rattle.hll_meaning.specs.Nodes.{Node, node_at, nodes, all_nodes}
use Rattle.hll_meaning.proofs.NodeTrees.{domain_in, reach_in}
use Rattle.hll_meaning.proofs.NodeForms.{domain_nodes-bounds, domain_nodes-truths, domain_nodes-named, reach_nodes-at, reach_nodes-field}
use Rattle.hll_meaning.proofs.PlacesWithin.{times, times_append, IsAmong}

-- ---- places of nodes

abbrev pub places_of : List Node → List ℕ
places_of = map (λ n. n.expr.at)

-- those of nodes one after the other
pub places_append : (ms ns : List Node) → places_of (ms ++ ns) ≡ places_of ms ++ places_of ns
places_append ms ns = map-append (λ (n : Node). n.expr.at) ms ns

-- the same, where both are known
pub places_both : (ms ns : List Node) (ps qs : List ℕ) → places_of ms ≡ ps → places_of ns ≡ qs → places_of (ms ++ ns) ≡ ps ++ qs
places_both ms ns ps qs p q = places_append ms ns ∙ (λ i. p i ++ q i)

-- those of each of several things
pub places_each : {X : Type 0} (f : X → List Node) (g : X → List ℕ) → ((x : X) → places_of (f x) ≡ g x) →
    (xs : List X) → places_of (flat_map f xs) ≡ flat_map g xs
places_each f g same [] = refl
places_each f g same (x ∷ xs) = places_both (f x) (flat_map f xs) (g x) (flat_map g xs) (same x) (places_each f g same xs)

-- those of each thing of several lists
pub places_nested : {X Y : Type 0} (f : Y → List Node) (g : X → List Y) (xs : List X) →
    places_of (flat_map f (flat_map g xs)) ≡ flat_map (λ x. places_of (flat_map f (g x))) xs
places_nested f g [] = refl
places_nested f g (x ∷ xs) =
    ap places_of (flat_map-append f (g x) (flat_map g xs))
    ∙ places_both (flat_map f (g x)) (flat_map f (flat_map g xs)) _ _ refl (places_nested f g xs)

-- ---- parts

-- an expression, wherever it stands, and several
abbrev pub places : Expr → In (List ℕ)
places e c = places_of (nodes e c)

abbrev pub all_places : List Expr → In (List ℕ)
all_places es c = flat_map (λ e. places e c) es

-- a domain, and a step of a path
abbrev pub domain_places : Domain → In (List ℕ)
domain_places d c = places_of ((domain_in d).nodes c)

abbrev pub reach_places : Reach → In (List ℕ)
reach_places r c = places_of ((reach_in r).nodes c)

-- a branch
abbrev pub branch_places : Branch → In (List ℕ)
branch_places b c = places b.when c ++ places b.gives c

pub all_each : (es : List Expr) (c : Context) → places_of (all_nodes es c) ≡ all_places es c
all_each es c = places_each (λ e. nodes e c) (λ e. places e c) (λ e. refl) es

pub branch_each : (c : Context) (b : Branch) → places_of (nodes b.when c ++ nodes b.gives c) ≡ branch_places b c
branch_each c b = places_append (nodes b.when c) (nodes b.gives c)

pub domain_places-bounds : (a b : Expr) (c : Context) → domain_places (Bounds a b) c ≡ places a (for_constant c) ++ places b (for_constant c)
domain_places-bounds a b c = ap places_of (domain_nodes-bounds a b c) ∙ places_append (nodes a (for_constant c)) (nodes b (for_constant c))

pub domain_places-truths : (c : Context) → domain_places Truths c ≡ []
domain_places-truths c = ap places_of (domain_nodes-truths c)

pub domain_places-named : (n : Name) (c : Context) → domain_places (Named n) c ≡ []
domain_places-named n c = ap places_of (domain_nodes-named n c)

pub reach_places-at : (e : Expr) (c : Context) → reach_places (At e) c ≡ places e c
reach_places-at e c = ap places_of (reach_nodes-at e c)

pub reach_places-field : (n : Name) (c : Context) → reach_places (Field n) c ≡ []
reach_places-field n c = ap places_of (reach_nodes-field n c)

-- ---- its own place

-- the places of an expression are its own and those of the nodes behind which it stands
pub with_own : (e : Expr) (c : Context) (ns : List Node) (ps : List ℕ) →
    nodes e c ≡ ns ++ (node_at e c ∷ []) → places_of ns ≡ ps → IsAmong (places e c) (e.at ∷ ps)
with_own e c ns ps is same a =
    let whole : times a (places e c) ≡ times a (ps ++ (e.at ∷ [])) = ap (times a) (ap places_of is ∙ places_both ns (node_at e c ∷ []) ps _ same refl) in
    omega (arith, times_append a ps (e.at ∷ []))
