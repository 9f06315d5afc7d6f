-- The expressions that stand in a text without faults have none, and their values lie in their ranges.
use Rattle.std.proofs.Common.{◌≡◌, suc, Bool, true, false, List, [], ◌∷◌, Contains, refl, sym, subst, arith}
use Rattle.std.specs.Prelude.{if◌then◌else◌}
use Rattle.std.specs.List.{AllByRecursion, flat_map}
use Rattle.hll_tree.specs.declared.tree.Expr.{Expr}
use Rattle.hll_tree.specs.declared.tree.HllModel.{HllModel}
use Rattle.hll_tree.proofs.Gives.{all_append}
use Rattle.hll_meaning.specs.Names.{Names}
use Rattle.hll_meaning.specs.Values.{worth}
use Rattle.hll_meaning.specs.Runs.{variables_among, AreOfKinds, scene}
use Rattle.hll_meaning.specs.Fitting.{is_scalar, ends_of}
use Rattle.hll_meaning.specs.Declarations.{names, items}
use Rattle.hll_meaning.specs.Judging.{judged}
use Rattle.hll_meaning.specs.StaticRules.{Left, left_side, asking, Asked, defines, demands, asked_in, pass1_faults, Well}
use Rattle.hll_meaning.specs.Soundness.{AreFine}
use Rattle.hll_meaning.specs.WellTexts.{IsGiven}
use Rattle.hll_meaning.specs.Nodes.{Node, nodes, all_nodes, own_range, ranges_of, defined_nodes, asked_nodes, declared_nodes, text_nodes, text_ranges}
use Rattle.hll_meaning.specs.NodeLaws.{IsFaultless, ValueLiesInRange, IsRangeOfNode}
use Rattle.hll_meaning.proofs.Faultless.{first_empty}
use Rattle.hll_meaning.proofs.Numbers.{number_in}
use Rattle.hll_meaning.proofs.Scenes.{scene_has}
use Rattle.hll_meaning.proofs.Ranges.{is_sound}
use Rattle.hll_meaning.proofs.FaultlessNodes.{Stands, nodes_stand}
use Rattle.hll_meaning.proofs.DeclaredRanges.{declared_stand}
use Rattle.hll_meaning.proofs.Agreement.{names_fine}
use Rattle.hll_meaning.proofs.WellTexts.{IsAskedFaultless, text_asked}

-- ---- definitions and demands

given_stand : (all : Names) (l : Left) (es : List Expr) → AllByRecursion (IsGiven all l) es → AllByRecursion (Stands all) (all_nodes es (asking all l.bound))
given_stand all l [] given = tt
given_stand all l (e ∷ es) given =
    all_append (Stands all) (nodes e (asking all l.bound)) (all_nodes es (asking all l.bound)) (nodes_stand e (asking all l.bound) given.0.faultless) (given_stand all l es given.1)

asked_stand : (all : Names) (q : Asked) → IsAskedFaultless all q → AllByRecursion (Stands all) (asked_nodes all q)
asked_stand all (defines d) h = subst (λ o. AllByRecursion (Stands all) (defined_nodes all d o)) (sym h.declared) (given_stand all (left_side d.indices h.kind) _ h.given)
asked_stand all (demands e) h = nodes_stand e (asking all []) h.faultless

all_asked_stand : (all : Names) (qs : List Asked) → AllByRecursion (IsAskedFaultless all) qs → AllByRecursion (Stands all) (flat_map (asked_nodes all) qs)
all_asked_stand all [] h = tt
all_asked_stand all (q ∷ qs) h = all_append (Stands all) (asked_nodes all q) (flat_map (asked_nodes all) qs) (asked_stand all q h.0) (all_asked_stand all qs h.1)

-- ---- texts

text_stands : (m : HllModel) → Well m → AllByRecursion (Stands (names m)) (text_nodes m)
text_stands m well =
    all_append (Stands (names m)) (declared_nodes (names m) (items m)) (flat_map (asked_nodes (names m)) (flat_map asked_in m.sections))
    (declared_stand m (first_empty (pass1_faults m) _ well))
    (all_asked_stand (names m) (flat_map asked_in m.sections) (text_asked m well))

-- what follows of each follows of all
each_follows : {A : Type 0} (P Q : A → Type 0) → ((x : A) → P x → Q x) → (xs : List A) → AllByRecursion P xs → AllByRecursion Q xs
each_follows P Q f [] h = tt
each_follows P Q f (x ∷ xs) h = (f x h.0, each_follows P Q f xs h.1)

pub nodes_faultless : (m : HllModel) → Well m → AllByRecursion IsFaultless (text_nodes m)
nodes_faultless m well = each_follows (Stands (names m)) IsFaultless (λ n h. h.faultless) (text_nodes m) (text_stands m well)

value_lies : (m : HllModel) → Well m → (n : Node) → Stands (names m) n → ValueLiesInRange m n
value_lies m well n stands h t bound of_kinds within numbers =
    is_sound n.expr n.where_ (scene m h t bound)
    (scene_has n.where_ (scene m h t bound) (record {
      names = sym stands.names;
      fine = subst AreFine (sym stands.names) (names_fine m well);
      of_kinds = subst (λ (ns : Names). AllByRecursion (AreOfKinds (variables_among ns)) h) (sym stands.names) of_kinds;
      time = within;
      bound = numbers;
    }))
    stands.faultless

pub node_values : (m : HllModel) → Well m → AllByRecursion (ValueLiesInRange m) (text_nodes m)
node_values m well = each_follows (Stands (names m)) (ValueLiesInRange m) (value_lies m well) (text_nodes m) (text_stands m well)

-- ---- ranges

own_is : (m : HllModel) (n : Node) → Contains (text_nodes m) n → ValueLiesInRange m n → AllByRecursion (IsRangeOfNode m) (own_range n)
own_is m n there lies = by_scalar (is_scalar (judged n.expr n.where_).kind) refl
  where
    by_scalar : (b : Bool) → is_scalar (judged n.expr n.where_).kind ≡ b → AllByRecursion (IsRangeOfNode m) (if b then record { at = n.expr.at; range = ends_of (judged n.expr n.where_).kind } ∷ [] else [])
    by_scalar true scalar = (
      record {
        node = n;
        stands = there;
        at = refl;
        within = λ h t bound of_kinds below numbers. number_in (judged n.expr n.where_).kind (worth n.expr (scene m h t bound)) scalar (lies h t bound of_kinds below numbers);
      },
      tt,
    )
    by_scalar false scalar = tt

Contains-further : (n : Node) (ns : List Node) (sought : Node) → Contains ns sought → Contains (n ∷ ns) sought
Contains-further n ns sought there = (suc there.0, omega (arith, there.1), there.2)

ranges_are : (m : HllModel) (ns : List Node) → ((n : Node) → Contains ns n → Contains (text_nodes m) n) → AllByRecursion (ValueLiesInRange m) ns → AllByRecursion (IsRangeOfNode m) (ranges_of ns)
ranges_are m [] among lie = tt
ranges_are m (n ∷ ns) among lie =
    all_append (IsRangeOfNode m) (own_range n) (ranges_of ns)
    (own_is m n (among n (0, omega arith, refl)) lie.0)
    (ranges_are m ns (λ k there. among k (Contains-further n ns k there)) lie.1)

pub range_values : (m : HllModel) → Well m → AllByRecursion (IsRangeOfNode m) (text_ranges m)
range_values m well = ranges_are m (text_nodes m) (λ n there. there) (node_values m well)
