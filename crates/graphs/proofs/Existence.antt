-- An acyclic relation on finitely many nodes has an order.
use Rattle.std.proofs.Common.{◌≡◌, ◌+◌, ◌<◌, ◌≤◌, ◌++◌, ◌∷◌, [], ◌⊎◌, ℕ, zero, suc, List, length, get_or, take, inl, inr, sym, subst, arith}
use Rattle.std.specs.Prelude.{◌≢◌, ◌↔◌, All, AllPairs, Contains}
use Rattle.std.proofs.lemmas.Bool.{cases_lt}
use Rattle.std.proofs.lemmas.List.{length_push, get_or_append_left, get_or_push, take-append-le, take_at}
use Rattle.std.proofs.lemmas.List.Elements.{All-nil, All-push, Contains-push_cases}
use Rattle.graphs.specs.Paths.{IsAcyclic, StaysBelow}
use Rattle.graphs.specs.Orders.{IsOrder}
use Rattle.graphs.specs.Parts.{Leads}
use Rattle.graphs.proofs.PathLemmas.{leads_here, leads_arrow, leads_reaches}
use Rattle.graphs.proofs.Lists.{no_member, all_or_not, all_below_or_not, member_or_not, distinct_push, one_more_few}

module _ (Arrow : ℕ → ℕ → Type 0) (n : ℕ) where
  -- some of the nodes in order
  record IsPart (order : List ℕ) : Type 0 where
    pub nodes : All (λ a. a < n) order
    pub once : AllPairs (λ a b. a ≢ b) order
    pub after : (place b : ℕ) → place < length order → Arrow (get_or order place 0) b → Contains (take place order) b

  -- a node that isn't yet in order, while all that it has an arrow to are
  record IsReady (order : List ℕ) (a : ℕ) : Type 0 where
    pub node : a < n
    pub out : ¬ (Contains order a)
    pub met : (b : ℕ) → Arrow a b → Contains order b

  -- no nodes are in order
  part_none : IsPart []
  part_none = record {
    nodes = All-nil (λ a. a < n);
    once = λ i j d before within. absurd (omega (arith, within));
    after = λ place b within arrow. absurd (omega (arith, within));
  }

  -- what stands after a part of the nodes
  pub after_push : (order : List ℕ) (a : ℕ) → ((place b : ℕ) → place < length order → Arrow (get_or order place 0) b → Contains (take place order) b) → ((b : ℕ) → Arrow a b → Contains order b) → (place b : ℕ) → place < length (order ++ a ∷ []) → Arrow (get_or (order ++ a ∷ []) place 0) b → Contains (take place (order ++ a ∷ [])) b
  after_push order a after met place b within arrow = elim (cases_lt place (length order)) [
    | inl before ↦ subst (λ (xs : List ℕ). Contains xs b) (sym (take-append-le place order (a ∷ []) (omega (arith, before))))
        (after place b before (subst (λ (x : ℕ). Arrow x b) (get_or_append_left order (a ∷ []) 0 place before) arrow))
    | inr past ↦ (
        let last : place ≡ length order = omega (arith, within, past, length_push order a) in
        subst (λ (xs : List ℕ). Contains xs b) (sym (take_at order (a ∷ []) place (sym last)))
        (met b (subst (λ (x : ℕ). Arrow x b) (get_or_push order a 0 place (sym last)) arrow)))
  ]

  -- a node that is ready is next
  part_more : (order : List ℕ) (a : ℕ) → IsPart order → IsReady order a → IsPart (order ++ a ∷ [])
  part_more order a part ready = record {
    nodes = All-push (λ b. b < n) order a part.nodes ready.node;
    once = distinct_push order a part.once ready.out;
    after = after_push order a part.after ready.met;
  }

module _ (Arrow : ℕ → ℕ → Type 0) (n : ℕ) (row : ℕ → List ℕ) (rows : (a b : ℕ) → a < n → Arrow a b ↔ Contains (row a) b) (stays : StaysBelow Arrow n) (acyclic : IsAcyclic Arrow n) where
  -- a node that isn't in order is ready, or has an arrow to another such node, which isn't on the trail to it
  look_on : (order trail : List ℕ) (c : ℕ) → c < n → ¬ (Contains order c) → ((t : ℕ) → Contains trail t → Leads Arrow t c) → ((a : ℕ) × IsReady Arrow n order a) ⊎ ((b : ℕ) × Arrow c b × (b < n) × (¬ (Contains order b)) × (¬ (Contains trail b)))
  look_on order trail c node out way = elim (all_or_not (row c) order) [
    | inl met ↦ inl (c, record { node = node; out = out; met = λ b arrow. met b ((rows c b node).0 arrow) })
    | inr unmet ↦ (
        let b = unmet.0 in
        let arrow : Arrow c b = (rows c b node).1 unmet.1 in
        let below : b < n = stays c b node arrow in
        elim (member_or_not trail b) [
          | inl there ↦ absurd (acyclic b below (leads_reaches Arrow b c b (way b there) arrow))
          | inr fresh ↦ inr (b, arrow, below, unmet.2, fresh)
        ])
  ]

  -- on along such arrows: the trail has no node twice, so it ends, at a node that is ready
  find_ready : (fuel : ℕ) (order trail : List ℕ) (c : ℕ) → c < n → ¬ (Contains order c) → All (λ a. a < n) trail → AllPairs (λ a b. a ≢ b) trail → ((t : ℕ) → Contains trail t → Leads Arrow t c) → n ≤ length trail + fuel → (a : ℕ) × IsReady Arrow n order a
  find_ready zero order trail c node out low once way few = elim (look_on order trail c node out way) [
    | inl ready ↦ ready
    | inr on ↦ (let less = one_more_few n trail on.0 low once on.2 on.4 in absurd (omega (arith, less, few)))
  ]
  find_ready (suc fuel) order trail c node out low once way few = elim (look_on order trail c node out way) [
    | inl ready ↦ ready
    | inr on ↦ find_ready fuel order (trail ++ on.0 ∷ []) on.0 on.2 on.3 (All-push (λ a. a < n) trail on.0 low on.2) (distinct_push trail on.0 once on.4)
        (λ t there. elim (Contains-push_cases trail on.0 t there) [
          | inl old ↦ leads_arrow Arrow t c on.0 (way t old) on.1
          | inr same ↦ subst (λ (x : ℕ). Leads Arrow x on.0) same (leads_here Arrow on.0)
        ]) (omega (arith, few, length_push trail on.0))
  ]

  -- a part of the nodes in order has them all, or goes on by one
  more_or_all : (order : List ℕ) → IsPart Arrow n order → IsOrder Arrow n order ⊎ ((a : ℕ) × (length order < n) × IsPart Arrow n (order ++ a ∷ []))
  more_or_all order part = elim (all_below_or_not n order) [
    | inl all ↦ inl (record { nodes = part.nodes; all = all; once = part.once; after = part.after })
    | inr missing ↦ (
        let ready = find_ready n order [] missing.0 missing.1 missing.2 (All-nil (λ a. a < n)) (λ i j d before within. absurd (omega (arith, within))) (λ t there. absurd (no_member t there)) (omega arith) in
        inr (ready.0, one_more_few n order missing.0 part.nodes part.once missing.1 missing.2, part_more Arrow n order ready.0 part ready.1))
  ]

  -- a part of the nodes in order goes on to all of them
  finish : (fuel : ℕ) (order : List ℕ) → IsPart Arrow n order → n ≤ length order + fuel → (all : List ℕ) × IsOrder Arrow n all
  finish zero order part few = elim (more_or_all order part) [
    | inl all ↦ (order, all)
    | inr more ↦ (let less : length order < n = more.1 in absurd (omega (arith, few, less)))
  ]
  finish (suc fuel) order part few = elim (more_or_all order part) [
    | inl all ↦ (order, all)
    | inr more ↦ finish fuel (order ++ more.0 ∷ []) more.2 (omega (arith, few, length_push order more.0))
  ]

  -- an acyclic relation has an order
  pub acyclic_ordered : (order : List ℕ) × IsOrder Arrow n order
  acyclic_ordered = finish n [] (part_none Arrow n) (omega arith)
