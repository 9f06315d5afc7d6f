-- What a builder keeps, as a signal comes.
use Rattle.std.proofs.Common.{◌≡◌, ℕ, zero, suc, ◌+◌, ◌*◌, ◌<◌, ◌≤◌, true, not, ◌||◌, List, [], ◌∷◌, ◌++◌, length, Some, slice_get, All, Contains, refl, sym, ap, subst, ◌∙◌, inl, inr, arith, lit<, Result, Ok, Err, IfOk, OnOk, ◌^◌}
use Rattle.std.proofs.lemmas.List.{map-append, length-append, length-map}
use Rattle.std.proofs.lemmas.Option.{none-some, same_Some, slice_get_within}
use Rattle.std.proofs.lemmas.List.Elements.{All-nil}
use Rattle.lll_core.specs.declared.signal.Signal.{Signal}
use Rattle.lll_core.specs.declared.signal.Signal.TheVariants.{One, Input, Latch, Imp, Eqv}
use Rattle.lll_core.specs.declared.draft.Draft.{Draft}
use Rattle.lll_core.specs.declared.draft.Draft.TheVariants.{Whole, Waiting}
use Rattle.lll_core.specs.declared.node.Node.{Node}
use Rattle.lll_core.specs.declared.node.Node.TheVariants as node
use Rattle.lll_core.specs.Signals.{AreSignals, NamesSignal, IsName, signal_names, is_one, signal_of, nexts}
use Rattle.lll_core.specs.Tables.{Instant, signal_value, value, are_equal, GatesHold}
use Rattle.lll_core.specs.Drafts.{signal_in, signals_in, IsProper, IsGate, AreReduced}
use Rattle.lll_core.specs.Building.{MayFollow, node_at, nodes_from, IsBuilding}
use Rattle.lll_core.proofs.ListLemmas.{slice_get-map_back, slice_get-map_at, slice_get-push, slice_get-last, place_of, Contains-at}
use Rattle.lll_core.proofs.ValueLemmas.{value-positive}
use Rattle.lll_core.proofs.SignalLemmas.{AreSoFar-push, AreSignals-whole, AreSoFar-none, AreSoFar-signals, next-push}

-- ---- nodes

-- the node of a new signal comes last
pub nodes_from-push : (k : ℕ) (signals : List Signal) (s : Signal) → nodes_from k (signals ++ s ∷ []) ≡ nodes_from k signals ++ node_at (k + length signals) s ∷ []
nodes_from-push k [] s = ap (λ n. node_at n s ∷ []) (omega arith)
nodes_from-push k (x ∷ signals) s = ap (λ nodes. node_at k x ∷ nodes)
    (nodes_from-push (k + 1) signals s ∙ ap (λ n. nodes_from (k + 1) signals ++ node_at n s ∷ []) (omega arith))

-- the node of a signal stands at its number
pub slice_get-nodes_from : (k : ℕ) (signals : List Signal) (n : ℕ) (s : Signal) → slice_get signals n ≡ Some s
    → slice_get (nodes_from k signals) n ≡ Some (node_at (k + n) s)
slice_get-nodes_from k [] n s at = absurd (none-some s at)
slice_get-nodes_from k (x ∷ signals) zero s at = ap Some (ap (λ n. node_at n x) (omega arith) ∙ ap (node_at (k + 0)) (same_Some x s at))
slice_get-nodes_from k (x ∷ signals) (suc n) s at = slice_get-nodes_from (k + 1) signals n s at ∙ ap (λ m. Some (node_at m s)) (omega arith)

-- and a node's place is the number of its signal
pub signal_of_node : (k : ℕ) (signals : List Signal) (n : ℕ) (x : Node) → slice_get (nodes_from k signals) n ≡ Some x
    → (s : Signal) × (slice_get signals n ≡ Some s) × (node_at (k + n) s ≡ x)
signal_of_node k [] n x at = absurd (none-some x at)
signal_of_node k (s ∷ signals) zero x at = (s, refl, ap (λ n. node_at n s) (omega arith) ∙ same_Some (node_at k s) x at)
signal_of_node k (s ∷ signals) (suc n) x at =
    let r = signal_of_node (k + 1) signals n x at in
    (r.0, r.1, ap (λ m. node_at m r.0) (omega arith) ∙ r.2)

-- a gate's node has no number
pub node_at-gate : (g : Signal) → IsGate g → (m n : ℕ) → node_at m g ≡ node_at n g
node_at-gate (Imp a b) gate m n = refl
node_at-gate (Eqv a b) gate m n = refl
node_at-gate One gate m n = elim gate.2 [ inl e ↦ cc | inr e ↦ cc ]
node_at-gate (Input name) gate m n = elim gate.2 [ inl e ↦ cc | inr e ↦ cc ]
node_at-gate (Latch name init next) gate m n = elim gate.2 [ inl e ↦ cc | inr e ↦ cc ]

-- and is that of no other signal
pub gate_of_node : (g s : Signal) → IsGate g → (m n : ℕ) → node_at m s ≡ node_at n g → s ≡ g
gate_of_node g s gate m n e = elim gate.2 [
  | inl p ↦ is_imp s gate.0 gate.1 (e ∙ ap (node_at n) p) ∙ sym p
  | inr p ↦ is_eqv s gate.0 gate.1 (e ∙ ap (node_at n) p) ∙ sym p
]
  where
    is_imp : (t : Signal) (a b : ℕ) → node_at m t ≡ node.Imp a b → t ≡ Imp a b
    is_imp One a b h = cc
    is_imp (Input name) a b h = cc
    is_imp (Latch name init next) a b h = cc
    is_imp (Imp x y) a b h = cc
    is_imp (Eqv x y) a b h = cc

    is_eqv : (t : Signal) (a b : ℕ) → node_at m t ≡ node.Eqv a b → t ≡ Eqv a b
    is_eqv One a b h = cc
    is_eqv (Input name) a b h = cc
    is_eqv (Latch name init next) a b h = cc
    is_eqv (Imp x y) a b h = cc
    is_eqv (Eqv x y) a b h = cc

-- a number that isn't reached is in no node
pub Alone-new : (k : ℕ) (signals : List Signal) (m : ℕ) → k + length signals ≤ m → Contains (nodes_from k signals) (node.Alone m) → ⊥
Alone-new k signals m past there =
    let p = place_of (nodes_from k signals) (node.Alone m) there in
    let s = signal_of_node k signals p.0 (node.Alone m) p.1 in
    let within = slice_get_within signals p.0 s.0 s.1 in
    by s.0 p.0 s.2 within
  where
    by : (s : Signal) (n : ℕ) → node_at (k + n) s ≡ node.Alone m → n < length signals → ⊥
    by One n e lt = grind arith
    by (Input name) n e lt = grind arith
    by (Latch name init next) n e lt = grind arith
    by (Imp a b) n e lt = cc
    by (Eqv a b) n e lt = cc

-- ---- gates

pub AreReduced-push : (signals : List Signal) (s : Signal) → AreReduced signals → IsProper s
    → (IsGate s → (n : ℕ) → slice_get signals n ≡ Some s → ⊥) → AreReduced (signals ++ s ∷ [])
AreReduced-push signals s old proper new = record {
  proper = λ n x at. elim (slice_get-push signals s n x at) [
    | inl p ↦ old.proper n x p
    | inr p ↦ subst IsProper p.1 proper
  ];
  shared = λ m n x gate at_m at_n. elim (slice_get-push signals s m x at_m) [
    | inl p ↦ elim (slice_get-push signals s n x at_n) [
      | inl q ↦ old.shared m n x gate p q
      | inr q ↦ absurd (new (subst IsGate (sym q.1) gate) m (p ∙ ap Some (sym q.1)))
    ]
    | inr p ↦ elim (slice_get-push signals s n x at_n) [
      | inl q ↦ absurd (new (subst IsGate (sym p.1) gate) n (q ∙ ap Some (sym p.1)))
      | inr q ↦ p.0 ∙ sym q.0
    ]
  ];
}

-- a gate whose node isn't there isn't there
pub gate_new : (signals : List Signal) (g : Signal) (x : Node) → (Contains (nodes_from 0 signals) x → ⊥) → x ≡ node_at (length signals) g
    → IsGate g → (n : ℕ) → slice_get signals n ≡ Some g → ⊥
gate_new signals g x new tied gate n at =
    new (Contains-at (nodes_from 0 signals) n x (slice_get-nodes_from 0 signals n g at ∙ ap Some (node_at-gate g gate (0 + n) (length signals) ∙ sym tied)))

-- ---- the whole

pub IsBuilding-push : (nodes : List Node) (drafts : List Draft) (x : Node) (d : Draft) → IsBuilding nodes drafts
    → MayFollow (signals_in drafts) (signal_in d) → All (NamesSignal drafts) (nexts (signal_in d)) → IsProper (signal_in d)
    → x ≡ node_at (length drafts) (signal_in d) → (Contains nodes x → ⊥)
    → IsBuilding (nodes ++ x ∷ []) (drafts ++ d ∷ [])
IsBuilding-push nodes drafts x d old may next proper tied new =
    let ss = signals_in drafts in
    let s = signal_in d in
    let same : signals_in (drafts ++ d ∷ []) ≡ ss ++ s ∷ [] = map-append signal_in drafts (d ∷ []) in
    let long : length ss ≡ length drafts = length-map drafts signal_in in
    record {
      nodes_right = ap (λ k. k ++ x ∷ []) old.nodes_right
          ∙ ap (λ y. nodes_from 0 ss ++ y ∷ []) (tied ∙ ap (λ n. node_at n s) (omega (arith, long)))
          ∙ sym (nodes_from-push 0 ss s) ∙ ap (nodes_from 0) (sym same);
      signals_right = subst AreSignals (sym same) (AreSignals-whole (ss ++ s ∷ []) (AreSoFar-push ss s (AreSoFar-signals ss old.signals_right) may)
          (omega (arith, length-append ss (s ∷ [])))
          (next-push ss s old.signals_right.next (subst (λ n. All (λ a. signal_of a < n) (nexts s)) (sym long) next)));
      reduced = subst AreReduced (sym same) (AreReduced-push ss s old.reduced proper
          (gate_new ss s x (subst (λ k. Contains k x → ⊥) old.nodes_right new) (tied ∙ ap (λ n. node_at n s) (sym long))));
    }

-- ---- look-ups

-- a draft that stands for a gate is the gate
pub whole_gate : (d : Draft) (g : Signal) → IsGate g → signal_in d ≡ g → d ≡ Whole g
whole_gate (Whole s) g gate e = ap Whole e
whole_gate (Waiting name init) g gate e = elim gate.2 [ inl p ↦ cc | inr p ↦ cc ]

-- the place of a gate's node is the gate's number
pub gate_there : (nodes : List Node) (drafts : List Draft) (x : Node) (g : Signal) (n : ℕ) → IsBuilding nodes drafts → IsGate g → x ≡ node_at 0 g
    → slice_get nodes n ≡ Some x → slice_get drafts n ≡ Some (Whole g)
gate_there nodes drafts x g n all gate tied at =
    let s = signal_of_node 0 (signals_in drafts) n x (sym (ap (λ k. slice_get k n) all.nodes_right) ∙ at) in
    let d = slice_get-map_back signal_in drafts n s.0 s.1 in
    d.1 ∙ ap Some (whole_gate d.0 g gate (d.2 ∙ gate_of_node g s.0 gate (0 + n) 0 (s.2 ∙ tied)))

-- signal 0 is always true
pub one_first : (signals : List Signal) → AreSignals signals → slice_get signals 0 ≡ Some One
one_first [] all = absurd (omega (arith, all.some))
one_first (s ∷ signals) all = by s (all.one 0 s refl)
  where
    by : (t : Signal) → is_one t ≡ true → Some t ≡ Some One
    by One e = refl
    by (Input name) e = cc
    by (Latch name init next) e = cc
    by (Imp a b) e = cc
    by (Eqv a b) e = cc

pub true_holds : (signals : List Signal) (now : Instant) → AreSignals signals → GatesHold signals now → signal_value now 0 ≡ true
true_holds signals now all gates = gates 0 One (one_first signals all)

-- ---- values

-- a gate has the value of its form
pub imp_value : (drafts : List Draft) (a b : ℕ) (now : Instant) (literal : ℕ)
    → (n : ℕ) × (literal ≡ 2 * n) × (slice_get drafts n ≡ Some (Whole (Imp a b)))
    → GatesHold (signals_in drafts) now → value now literal ≡ (not (value now a) || value now b)
imp_value drafts a b now literal gate holds =
    ap (value now) gate.1 ∙ value-positive now gate.0 ∙ holds gate.0 (Imp a b) (slice_get-map_at signal_in drafts gate.0 (Whole (Imp a b)) gate.2)

pub eqv_value : (drafts : List Draft) (a b : ℕ) (now : Instant) (literal : ℕ)
    → (n : ℕ) × (literal ≡ 2 * n) × (slice_get drafts n ≡ Some (Whole (Eqv a b)))
    → GatesHold (signals_in drafts) now → value now literal ≡ are_equal (value now a) (value now b)
eqv_value drafts a b now literal gate holds =
    ap (value now) gate.1 ∙ value-positive now gate.0 ∙ holds gate.0 (Eqv a b) (slice_get-map_at signal_in drafts gate.0 (Whole (Eqv a b)) gate.2)

-- the literal of a signal at its place names it
pub there : {X : Type 0} (xs : List X) (x : X) (literal : ℕ) → (n : ℕ) × (literal ≡ 2 * n) × (slice_get xs n ≡ Some x) → NamesSignal xs literal
there xs x literal gate = omega (arith, gate.1, slice_get_within xs gate.0 x gate.2)

-- the number of a signal that comes is in no node
pub number_new : (drafts now : List Draft) (n : ℕ) → drafts ≡ now → n ≡ length drafts
    → Contains (nodes_from 0 (signals_in now)) (node.Alone n) → ⊥
number_new drafts now n view last = Alone-new 0 (signals_in now) n (omega (arith, length-map now signal_in, ap length view))

-- the number of a gate is small
pub gate_small : (nodes : List Node) (drafts : List Draft) (x : Node) (g : Signal) (n : ℕ) → IsBuilding nodes drafts → IsGate g → x ≡ node_at 0 g
    → slice_get nodes n ≡ Some x → n < 2 ^ 31
gate_small nodes drafts x g n all gate tied at =
    omega (arith, slice_get_within drafts n (Whole g) (gate_there nodes drafts x g n all gate tied at), length-map drafts signal_in, all.signals_right.few)

-- the gate that came last is there
pub added_gate : {E : Type 0} (r : Result ℕ E) (old new : List Draft) (g : Signal) → IfOk r (λ literal. literal ≡ 2 * length old)
    → OnOk r (new ≡ old ++ Whole g ∷ []) → IfOk r (λ literal. (n : ℕ) × (literal ≡ 2 * n) × (slice_get new n ≡ Some (Whole g)))
added_gate (Ok literal) old new g l added = (length old, l, ap (λ ds. slice_get ds (length old)) added ∙ slice_get-last old (Whole g))
added_gate (Err e) old new g l added = tt

-- what follows of the value of a result
pub if_ok : {X E : Type 0} (r : Result X E) {P Q : X → Type 0} → IfOk r P → ((x : X) → P x → Q x) → IfOk r Q
if_ok (Ok x) p then = then x p
if_ok (Err e) p then = tt

-- ---- steps of the builder

-- what a builder keeps once a signal has come
pub IsBuilding-added : (nodes later : List Node) (drafts now new : List Draft) (x : Node) (d : Draft) → IsBuilding nodes drafts → drafts ≡ now
    → MayFollow (signals_in now) (signal_in d) → All (NamesSignal now) (nexts (signal_in d)) → IsProper (signal_in d)
    → x ≡ node_at (length now) (signal_in d) → (Contains (nodes_from 0 (signals_in now)) x → ⊥)
    → later ≡ nodes ++ x ∷ [] → new ≡ drafts ++ d ∷ [] → IsBuilding later new
IsBuilding-added nodes later drafts now new x d all view may next proper tied fresh later_is new_is =
    subst (λ k. IsBuilding k new) (sym later_is) (subst (IsBuilding (nodes ++ x ∷ [])) (sym new_is)
    (IsBuilding-push nodes drafts x d all
    (subst (λ ds. MayFollow (signals_in ds) (signal_in d)) (sym view) may)
    (subst (λ ds. All (NamesSignal ds) (nexts (signal_in d))) (sym view) next)
    proper
    (tied ∙ ap (λ ds. node_at (length ds) (signal_in d)) (sym view))
    (subst (λ k. Contains k x → ⊥) (ap (λ ds. nodes_from 0 (signals_in ds)) (sym view) ∙ sym all.nodes_right) fresh)))

-- what a new builder keeps
pub IsBuilding-one : IsBuilding (node.Alone 0 ∷ []) (Whole One ∷ [])
IsBuilding-one = record {
  nodes_right = refl;
  signals_right = AreSignals-whole (One ∷ []) (AreSoFar-push [] One AreSoFar-none may) (lit< tt) (next-push [] One (λ n x at. absurd (none-some x at)) (All-nil (NamesSignal {X = Signal} [])));
  reduced = AreReduced-push [] One (record { proper = λ n x at. absurd (none-some x at); shared = λ m n x gate at_m at_n. absurd (none-some x at_m) }) tt
      (λ gate n at. none-some One at);
}
  where
    may : MayFollow [] One
    may = record { room = lit< tt; one = refl; lower = All-nil (NamesSignal {X = Signal} []); named = All-nil IsName; new = All-nil (λ name. Contains (signal_names []) name → ⊥) }

pub IsBuilding-new : (nodes : List Node) (drafts : List Draft) → length nodes ≡ 0 → drafts ≡ [] → IsBuilding (nodes ++ node.Alone 0 ∷ []) (drafts ++ Whole One ∷ [])
IsBuilding-new [] [] none empty = IsBuilding-one
IsBuilding-new [] (d ∷ drafts) none empty = cc
IsBuilding-new (x ∷ nodes) drafts none empty = absurd (omega (arith, none))
