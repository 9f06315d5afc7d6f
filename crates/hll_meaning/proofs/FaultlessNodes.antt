-- What stands in an expression without faults has none.
use Rattle.std.proofs.Common.{◌≡◌, ℕ, ℤ, Bool, true, false, Some, None, Option, List, [], ◌∷◌, ◌++◌, map, fold, pos, refl, sym, subst}
use Rattle.std.specs.List.{AllByRecursion, flat_map}
use Rattle.intervals.specs.declared.interval.Interval.{Interval}
use Rattle.hll_tree.specs.declared.tree.Branch.{Branch}
use Rattle.hll_tree.specs.declared.tree.Cmp.{Cmp}
use Rattle.hll_tree.specs.declared.tree.Domain.{Domain, Bounds, Bool as Truths, Named}
use Rattle.hll_tree.specs.declared.tree.Expr.{Expr}
use Rattle.hll_tree.specs.declared.tree.Form.{Number, Truth, Path, Chain, Compare, Minus, Not, Choice, Group, Quant as Quantified, Pre, Least, Greatest, Size, Starting, Within}
use Rattle.hll_tree.specs.declared.tree.Link.{Link}
use Rattle.hll_tree.specs.declared.tree.Name.{Name}
use Rattle.hll_tree.specs.declared.tree.Quant.{Quant}
use Rattle.hll_tree.specs.declared.tree.Reach.{Reach, At, Field}
use Rattle.hll_tree.proofs.Gives.{all_append}
use Rattle.hll_meaning.specs.Kinds.{Kind, truth, whole, element, array, struct, Value}
use Rattle.hll_meaning.specs.Names.{Thing, constant, type_of, code_in, variable, later, Names, under}
use Rattle.hll_meaning.specs.Values.{of_number}
use Rattle.hll_meaning.specs.Judging.{Context, Judged, Ranged, Reached, by_index, by_name, Way, by_index_from, one_step, reached_from, index_faults, path_from, thing_path, bound_path, constant_kind, for_constant, inside_bind, one_link, walked, all_in, all_faults, judged, domain_said}
use Rattle.hll_meaning.specs.Nodes.{Node, node_at, nodes, all_nodes}
use Rattle.hll_meaning.proofs.JudgedForms.{link_said, branch_said, reach_said, judged-path, judged-chain, judged-compare, judged-minus, judged-not, judged-choice, judged-group, judged-quantified, judged-pre_alone, judged-pre_with, judged-least, judged-greatest, judged-size, judged-within, domain_said-bounds, reach_said-at}
use Rattle.hll_meaning.proofs.FormInduction.{HoldsByForm, holds_by_form}
use Rattle.hll_meaning.proofs.NodeTrees.{domain_in, reach_in}
use Rattle.hll_meaning.proofs.NodeForms.{links_nodes, branches_nodes, reaches_nodes, nodes-number, nodes-truth, nodes-path, nodes-chain, nodes-compare, nodes-minus, nodes-not, nodes-choice, nodes-group, nodes-quantified, nodes-pre_alone, nodes-pre_with, nodes-least, nodes-greatest, nodes-size, nodes-starting, nodes-within, domain_nodes-bounds, domain_nodes-truths, domain_nodes-named, reach_nodes-at, reach_nodes-field}
use Rattle.hll_meaning.proofs.Faultless.{empty_parts, first_empty, second_empty}
use Rattle.hll_meaning.proofs.Lies.{front_faultless, link_parts}
use Rattle.hll_meaning.proofs.Paths.{steps_before}
use Rattle.hll_meaning.proofs.Refused.{faults_of_form}

-- a node without faults under these names
pub record Stands (all : Names) (n : Node) : Type 0 where
  pub faultless : (judged n.expr n.where_).faults ≡ []
  pub names : n.where_.names ≡ all

-- all nodes of the expression stand where it has no faults
abbrev pub AllStand : Expr → Type 0
AllStand e = (c : Context) → (judged e c).faults ≡ [] → AllByRecursion (Stands c.names) (nodes e c)

-- so do those of a domain, and of a step of a path
abbrev DomainStands : Domain → Type 0
DomainStands d = (c : Context) → (domain_said d c).faults ≡ [] → AllByRecursion (Stands c.names) ((domain_in d).nodes c)

abbrev ReachStands : Reach → Type 0
ReachStands r = (c : Context) → index_faults c (reach_said r) ≡ [] → AllByRecursion (Stands c.names) ((reach_in r).nodes c)

-- an expression behind its parts
behind_parts : (e : Expr) (c : Context) (ns : List Node) → nodes e c ≡ ns ++ (node_at e c ∷ []) → (judged e c).faults ≡ [] → AllByRecursion (Stands c.names) ns → AllByRecursion (Stands c.names) (nodes e c)
behind_parts e c ns is none all = subst (AllByRecursion (Stands c.names)) (sym is) (all_append (Stands c.names) ns (node_at e c ∷ []) all (record { faultless = none; names = refl }, tt))

-- ---- paths

-- the index of a step without faults has none
step_index : (c : Context) (at : ℕ) (w : Way) (r : Reached) → (one_step c at w r).faults ≡ [] → index_faults c r ≡ []
step_index c at w (by_index i) none = by_kind w.kind none
  where
    by_kind : (k : Kind) → (by_index_from at (i c) k w.faults).faults ≡ [] → (i c).faults ≡ []
    by_kind truth h = second_empty w.faults (i c).faults (first_empty _ _ h)
    by_kind (whole e) h = second_empty w.faults (i c).faults (first_empty _ _ h)
    by_kind (element root e) h = second_empty w.faults (i c).faults (first_empty _ _ h)
    by_kind (array n k) h = first_empty (i c).faults _ (second_empty w.faults _ h)
    by_kind (struct own fields) h = second_empty w.faults (i c).faults (first_empty _ _ h)
step_index c at w (by_name sought place) none = refl

steps_indices : (c : Context) (at : ℕ) (rs : List Reached) (w : Way) → (fold (one_step c at) w rs).faults ≡ [] → AllByRecursion (λ r. index_faults c r ≡ []) rs
steps_indices c at [] w none = tt
steps_indices c at (r ∷ rs) w none = (step_index c at w r (steps_before c at rs (one_step c at w r) none), steps_indices c at rs (one_step c at w r) none)

each_index : (c : Context) (rs : List Reached) → flat_map (index_faults c) rs ≡ [] → AllByRecursion (λ r. index_faults c r ≡ []) rs
each_index c [] none = tt
each_index c (r ∷ rs) none = let p = empty_parts (index_faults c r) _ none in (p.0, each_index c rs p.1)

path_indices : (c : Context) (at : ℕ) (k : Kind) (fixed : Bool) (v : Value) (rs : List Reached) → (path_from c at k fixed v rs).faults ≡ [] → AllByRecursion (λ r. index_faults c r ≡ []) rs
path_indices c at k fixed v rs none = steps_indices c at rs (record { kind = k; faults = [] }) (first_empty (reached_from c at k rs).faults _ none)

thing_indices : (c : Context) (at : ℕ) (rs : List Reached) (o : Option Thing) → (thing_path c at rs o).faults ≡ [] → AllByRecursion (λ r. index_faults c r ≡ []) rs
thing_indices c at rs None none = absurd (cc none)
thing_indices c at rs (Some (constant b x)) none = path_indices c at (constant_kind b x) true (of_number x) rs none
thing_indices c at rs (Some (type_of k)) none = absurd (cc none)
thing_indices c at rs (Some (code_in root code)) none = path_indices c at (element root (record { lo = pos code; hi = pos code })) false [] rs none
thing_indices c at rs (Some (variable input k)) none = path_indices c at k false [] rs none
thing_indices c at rs (Some later) none = each_index c rs (first_empty (flat_map (index_faults c) rs) _ none)

bound_indices : (c : Context) (at : ℕ) (name : List ℕ) (rs : List Reached) (o : Option Kind) → (bound_path c at name rs o).faults ≡ [] → AllByRecursion (λ r. index_faults c r ≡ []) rs
bound_indices c at name rs (Some k) none = path_indices c at k false [] rs none
bound_indices c at name rs None none = thing_indices c at rs (under name c.names) none

-- ---- lists of parts

reaches_stand : (c : Context) (rs : List Reach) → AllByRecursion ReachStands rs → AllByRecursion (λ r. index_faults c r ≡ []) (map reach_said rs) → AllByRecursion (Stands c.names) (reaches_nodes rs c)
reaches_stand c [] all none = tt
reaches_stand c (r ∷ rs) all none = all_append (Stands c.names) ((reach_in r).nodes c) (reaches_nodes rs c) (all.0 c none.0) (reaches_stand c rs all.1 none.1)

all_stand : (c : Context) (es : List Expr) → AllByRecursion AllStand es → all_faults (map (λ j. j c) (map judged es)) ≡ [] → AllByRecursion (Stands c.names) (all_nodes es c)
all_stand c [] all none = tt
all_stand c (e ∷ es) all none =
    let p = empty_parts (judged e c).faults _ none in
    all_append (Stands c.names) (nodes e c) (all_nodes es c) (all.0 c p.0) (all_stand c es all.1 p.1)

links_stand : (c : Context) (ls : List Link) → AllByRecursion (λ l. AllStand l.with) ls → (j : Judged) → (fold (one_link c) j (map link_said ls)).faults ≡ [] → AllByRecursion (Stands c.names) (links_nodes ls c)
links_stand c [] all j none = tt
links_stand c (l ∷ ls) all j none =
    let right = (link_parts c j (link_said l) (front_faultless c (map link_said ls) (one_link c j (link_said l)) none)).1 in
    all_append (Stands c.names) (nodes l.with c) (links_nodes ls c) (all.0 c right) (links_stand c ls all.1 (one_link c j (link_said l)) none)

branches_stand : (c : Context) (bs : List Branch) → AllByRecursion (λ b. AllStand b.when × AllStand b.gives) bs →
    flat_map (λ (b : Judged × Judged). b.0.faults ++ b.1.faults) (all_in c (map branch_said bs)) ≡ [] → AllByRecursion (Stands c.names) (branches_nodes bs c)
branches_stand c [] all none = tt
branches_stand c (b ∷ bs) all none =
    let p = empty_parts ((judged b.when c).faults ++ (judged b.gives c).faults) _ none in
    let q = empty_parts (judged b.when c).faults _ p.0 in
    all_append (Stands c.names) (nodes b.when c ++ nodes b.gives c) (branches_nodes bs c)
    (all_append (Stands c.names) (nodes b.when c) (nodes b.gives c) (all.0.0 c q.0) (all.0.1 c q.1))
    (branches_stand c bs all.1 p.1)

-- ---- forms

stands_number : (e : Expr) (n : ℤ) → e.form ≡ Number n → AllStand e
stands_number e n is c none = behind_parts e c [] (nodes-number e n is c) none tt

stands_truth : (e : Expr) (b : Bool) → e.form ≡ Truth b → AllStand e
stands_truth e b is c none = behind_parts e c [] (nodes-truth e b is c) none tt

stands_path : (e : Expr) (n : Name) (rs : List Reach) → e.form ≡ Path n rs → AllByRecursion ReachStands rs → AllStand e
stands_path e n rs is all c none =
    behind_parts e c _ (nodes-path e n rs is c) none
    (reaches_stand c rs all (bound_indices c e.at n.text (map reach_said rs) (under n.text c.bound) (faults_of_form _ _ (judged-path e n rs is c) none)))

stands_chain : (e first : Expr) (ls : List Link) → e.form ≡ Chain first ls → AllStand first → AllByRecursion (λ l. AllStand l.with) ls → AllStand e
stands_chain e first ls is f all c none =
    let p = faults_of_form _ _ (judged-chain e first ls is c) none in
    behind_parts e c _ (nodes-chain e first ls is c) none
    (all_append (Stands c.names) (nodes first c) (links_nodes ls c) (f c (front_faultless c (map link_said ls) (judged first c) p)) (links_stand c ls all (judged first c) p))

stands_compare : (e : Expr) (o : Cmp) (a b : Expr) → e.form ≡ Compare o a b → AllStand a → AllStand b → AllStand e
stands_compare e o a b is f g c none =
    let p = empty_parts (judged a c).faults _ (faults_of_form _ _ (judged-compare e o a b is c) none) in
    behind_parts e c _ (nodes-compare e o a b is c) none
    (all_append (Stands c.names) (nodes a c) (nodes b c) (f c p.0) (g c (first_empty (judged b c).faults _ p.1)))

stands_minus : (e inner : Expr) → e.form ≡ Minus inner → AllStand inner → AllStand e
stands_minus e inner is f c none = behind_parts e c _ (nodes-minus e inner is c) none (f c (first_empty (judged inner c).faults _ (faults_of_form _ _ (judged-minus e inner is c) none)))

stands_not : (e inner : Expr) → e.form ≡ Not inner → AllStand inner → AllStand e
stands_not e inner is f c none = behind_parts e c _ (nodes-not e inner is c) none (f c (first_empty (judged inner c).faults _ (faults_of_form _ _ (judged-not e inner is c) none)))

stands_choice : (e : Expr) (bs : List Branch) (otherwise : Expr) → e.form ≡ Choice bs otherwise → AllByRecursion (λ b. AllStand b.when × AllStand b.gives) bs → AllStand otherwise → AllStand e
stands_choice e bs otherwise is all f c none =
    let p = first_empty (walked (all_in c (map branch_said bs)) (judged otherwise c)) _ (faults_of_form _ _ (judged-choice e bs otherwise is c) none) in
    let q = empty_parts (flat_map (λ (b : Judged × Judged). b.0.faults ++ b.1.faults) (all_in c (map branch_said bs))) _ p in
    behind_parts e c _ (nodes-choice e bs otherwise is c) none
    (all_append (Stands c.names) (branches_nodes bs c) (nodes otherwise c) (branches_stand c bs all q.0) (f c q.1))

stands_group : (e : Expr) (es : List Expr) → e.form ≡ Group es → AllByRecursion AllStand es → AllStand e
stands_group e es is all c none =
    behind_parts e c _ (nodes-group e es is c) none
    (all_stand c es all (first_empty (all_faults (map (λ j. j c) (map judged es))) _ (faults_of_form _ _ (judged-group e es is c) none)))

stands_quantified : (e : Expr) (q : Quant) (n : Name) (d : Domain) (body : Expr) → e.form ≡ Quantified q n d body → DomainStands d → AllStand body → AllStand e
stands_quantified e q n d body is g f c none =
    let inside = inside_bind n.text (domain_said d c).kind c in
    let p = empty_parts (domain_said d c).faults _ (faults_of_form _ _ (judged-quantified e q n d body is c) none) in
    behind_parts e c _ (nodes-quantified e q n d body is c) none
    (all_append (Stands c.names) ((domain_in d).nodes c) (nodes body inside) (g c p.0) (f inside (first_empty (judged body inside).faults _ p.1)))

stands_pre_alone : (e body : Expr) → e.form ≡ Pre body None → AllStand body → AllStand e
stands_pre_alone e body is f c none = behind_parts e c _ (nodes-pre_alone e body is c) none (f c (first_empty (judged body c).faults _ (faults_of_form _ _ (judged-pre_alone e body is c) none)))

stands_pre_with : (e body first : Expr) → e.form ≡ Pre body (Some first) → AllStand body → AllStand first → AllStand e
stands_pre_with e body first is f g c none =
    let p = empty_parts (judged body c).faults _ (faults_of_form _ _ (judged-pre_with e body first is c) none) in
    behind_parts e c _ (nodes-pre_with e body first is c) none
    (all_append (Stands c.names) (nodes body c) (nodes first c) (f c p.0) (g c (first_empty (judged first c).faults _ p.1)))

stands_least : (e : Expr) (es : List Expr) → e.form ≡ Least es → AllByRecursion AllStand es → AllStand e
stands_least e es is all c none =
    behind_parts e c _ (nodes-least e es is c) none
    (all_stand c es all (first_empty (all_faults (map (λ j. j c) (map judged es))) _ (faults_of_form _ _ (judged-least e es is c) none)))

stands_greatest : (e : Expr) (es : List Expr) → e.form ≡ Greatest es → AllByRecursion AllStand es → AllStand e
stands_greatest e es is all c none =
    behind_parts e c _ (nodes-greatest e es is c) none
    (all_stand c es all (first_empty (all_faults (map (λ j. j c) (map judged es))) _ (faults_of_form _ _ (judged-greatest e es is c) none)))

stands_size : (e inner : Expr) → e.form ≡ Size inner → AllStand inner → AllStand e
stands_size e inner is f c none = behind_parts e c _ (nodes-size e inner is c) none (f c (first_empty (judged inner c).faults _ (faults_of_form _ _ (judged-size e inner is c) none)))

stands_starting : (e : Expr) → e.form ≡ Starting → AllStand e
stands_starting e is c none = behind_parts e c [] (nodes-starting e is c) none tt

stands_within : (e inner : Expr) (i : Interval) → e.form ≡ Within inner i → AllStand inner → AllStand e
stands_within e inner i is f c none = behind_parts e c _ (nodes-within e inner i is c) none (f c (first_empty (judged inner c).faults _ (faults_of_form _ _ (judged-within e inner i is c) none)))

-- ---- domains and steps of paths

stands_bounds : (a b : Expr) → AllStand a → AllStand b → DomainStands (Bounds a b)
stands_bounds a b f g c none =
    let d = for_constant c in
    let p = empty_parts (judged a d).faults _ (subst (λ (r : Ranged). r.faults ≡ []) (domain_said-bounds a b c) none) in
    subst (AllByRecursion (Stands c.names)) (sym (domain_nodes-bounds a b c))
    (all_append (Stands c.names) (nodes a d) (nodes b d) (f d p.0) (g d (first_empty (judged b d).faults _ p.1)))

stands_truths : DomainStands Truths
stands_truths c none = subst (AllByRecursion (Stands c.names)) (sym (domain_nodes-truths c)) tt

stands_named : (n : Name) → DomainStands (Named n)
stands_named n c none = subst (AllByRecursion (Stands c.names)) (sym (domain_nodes-named n c)) tt

stands_index : (e : Expr) → AllStand e → ReachStands (At e)
stands_index e f c none = subst (AllByRecursion (Stands c.names)) (sym (reach_nodes-at e c)) (f c (subst (λ (r : Reached). index_faults c r ≡ []) (reach_said-at e) none))

stands_field : (n : Name) → ReachStands (Field n)
stands_field n c none = subst (AllByRecursion (Stands c.names)) (sym (reach_nodes-field n c)) tt

-- ---- any depth

by_form : HoldsByForm AllStand DomainStands ReachStands
by_form = record {
  number = stands_number;
  truth = stands_truth;
  path = stands_path;
  chain = stands_chain;
  compare = stands_compare;
  minus = stands_minus;
  negated = stands_not;
  choice = stands_choice;
  group = stands_group;
  quantified = stands_quantified;
  pre_alone = stands_pre_alone;
  pre_with = stands_pre_with;
  least = stands_least;
  greatest = stands_greatest;
  size = stands_size;
  starting = stands_starting;
  within = stands_within;
  bounds = stands_bounds;
  truths = stands_truths;
  named = stands_named;
  index = stands_index;
  field = stands_field;
}

pub nodes_stand : (e : Expr) → AllStand e
nodes_stand = holds_by_form AllStand DomainStands ReachStands by_form
