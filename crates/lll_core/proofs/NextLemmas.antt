-- What a builder keeps where a latch gets its next.
use Rattle.std.proofs.Common.{◌≡◌, ℕ, zero, suc, ◌+◌, ◌<◌, ◌==◌, List, [], ◌∷◌, ◌++◌, length, Some, slice_get, slice_set, All, refl, sym, ap, subst, ◌∙◌, inl, inr, length-set, ◌^◌}
use Rattle.std.specs.List.{IsDistinct}
use Rattle.std.specs.Str.{bytes_eq}
use Rattle.std.proofs.lemmas.Option.{same_Some}
use Rattle.std.proofs.lemmas.List.{map-set, length-map}
use Rattle.std.proofs.lemmas.List.Elements.{All-nil, All-cons}
use Rattle.lll_core.specs.declared.signal.Signal.{Signal}
use Rattle.lll_core.specs.declared.signal.Signal.TheVariants.{Latch}
use Rattle.lll_core.specs.declared.draft.Draft.{Draft}
use Rattle.lll_core.specs.declared.node.Node.{Node}
use Rattle.lll_core.specs.Signals.{AreSignals, NamesSignal, IsName, is_one, signal_of, operands, nexts, own_names, signal_names}
use Rattle.lll_core.specs.Drafts.{signal_in, signals_in, with_next, IsLatch, IsProper, IsGate, AreReduced}
use Rattle.lll_core.specs.Building.{node_at, nodes_from, IsBuilding}
use Rattle.lll_core.proofs.ListLemmas.{slice_get-map_at, slice_get-set_back}

-- a signal that has the names of the one before it leaves all names as they were
pub signal_names-set : (signals : List Signal) (n : ℕ) (s t : Signal) → slice_get signals n ≡ Some s → own_names t ≡ own_names s
    → signal_names (slice_set signals n t) ≡ signal_names signals
signal_names-set [] n s t at same = refl
signal_names-set (x ∷ signals) zero s t at same = ap (λ names. names ++ signal_names signals) (same ∙ ap own_names (sym (same_Some x s at)))
signal_names-set (x ∷ signals) (suc n) s t at same = ap (λ names. own_names x ++ names) (signal_names-set signals n s t at same)

-- and one that has its node leaves all nodes
pub nodes_from-set : (k : ℕ) (signals : List Signal) (n : ℕ) (s t : Signal) → slice_get signals n ≡ Some s → ((m : ℕ) → node_at m t ≡ node_at m s)
    → nodes_from k (slice_set signals n t) ≡ nodes_from k signals
nodes_from-set k [] n s t at same = refl
nodes_from-set k (x ∷ signals) zero s t at same = ap (λ node. node ∷ nodes_from (k + 1) signals) (same k ∙ ap (node_at k) (sym (same_Some x s at)))
nodes_from-set k (x ∷ signals) (suc n) s t at same = ap (λ nodes. node_at k x ∷ nodes) (nodes_from-set (k + 1) signals n s t at same)

pub latch_no_gate : (name : List ℕ) (init next : ℕ) → IsGate (Latch name init next) → ⊥
latch_no_gate name init next gate = elim gate.2 [ inl e ↦ cc | inr e ↦ cc ]

module _ (signals : List Signal) (n : ℕ) (name : List ℕ) (init old next : ℕ) (at : slice_get signals n ≡ Some (Latch name init old)) where
  pub AreSignals-next : AreSignals signals → NamesSignal signals next → AreSignals (slice_set signals n (Latch name init next))
  AreSignals-next all there =
      let t : Signal = Latch name init next in
      let long : length (slice_set signals n t) ≡ length signals = length-set signals n t in
      let names : signal_names (slice_set signals n t) ≡ signal_names signals = signal_names-set signals n (Latch name init old) t at refl in
      record {
        some = subst (λ k. 0 < k) (sym long) all.some;
        few = subst (λ k. k < 2 ^ 31) (sym long) all.few;
        one = λ k x there. elim (slice_get-set_back signals n t k x there) [
          | inl p ↦ all.one k x p
          | inr p ↦ subst (λ y. is_one y ≡ (k == 0)) p.1 (all.one n (Latch name init old) at ∙ ap (λ j. j == 0) (sym p.0))
        ];
        lower = λ k x there. elim (slice_get-set_back signals n t k x there) [
          | inl p ↦ all.lower k x p
          | inr p ↦ subst (λ y. All (λ a. signal_of a < k) (operands y)) p.1 (subst (λ j. All (λ a. signal_of a < j) (init ∷ [])) (sym p.0) (all.lower n (Latch name init old) at))
        ];
        next = λ k x here. subst (λ m. All (λ a. signal_of a < m) (nexts x)) (sym long) (elim (slice_get-set_back signals n t k x here) [
          | inl p ↦ all.next k x p
          | inr p ↦ subst (λ y. All (NamesSignal signals) (nexts y)) p.1 (All-cons (NamesSignal signals) next [] there (All-nil (NamesSignal signals)))
        ]);
        named = subst (All IsName) (sym names) all.named;
        distinct = subst (IsDistinct bytes_eq) (sym names) all.distinct;
      }

  pub AreReduced-next : AreReduced signals → AreReduced (slice_set signals n (Latch name init next))
  AreReduced-next all = record {
    proper = λ k x there. elim (slice_get-set_back signals n (Latch name init next) k x there) [
      | inl p ↦ all.proper k x p
      | inr p ↦ subst IsProper p.1 tt
    ];
    shared = λ k m x gate at_k at_m. elim (slice_get-set_back signals n (Latch name init next) k x at_k) [
      | inl p ↦ elim (slice_get-set_back signals n (Latch name init next) m x at_m) [
        | inl q ↦ all.shared k m x gate p q
        | inr q ↦ absurd (latch_no_gate name init next (subst IsGate (sym q.1) gate))
      ]
      | inr p ↦ absurd (latch_no_gate name init next (subst IsGate (sym p.1) gate))
    ];
  }

-- a latch as a signal, before and after it gets a next
pub latch_in : (d : Draft) → IsLatch d
    → (name : List ℕ) × (init : ℕ) × (old : ℕ) × (signal_in d ≡ Latch name init old) × ((next : ℕ) → signal_in (with_next next d) ≡ Latch name init next)
latch_in d latch = elim latch.2 [
  | inl e ↦ (latch.0, latch.1, 0, ap signal_in e, λ next. ap (λ x. signal_in (with_next next x)) e)
  | inr e ↦ (latch.0, latch.1, e.0, ap signal_in e.1, λ next. ap (λ x. signal_in (with_next next x)) e.1)
]

pub IsBuilding-next : (nodes : List Node) (drafts : List Draft) (n next : ℕ) (d new : Draft) → IsBuilding nodes drafts
    → slice_get drafts n ≡ Some d → IsLatch d → NamesSignal drafts next → new ≡ with_next next d → IsBuilding nodes (slice_set drafts n new)
IsBuilding-next nodes drafts n next d new all at latch there is =
    let l = latch_in d latch in
    let ss = signals_in drafts in
    let same : signals_in (slice_set drafts n new) ≡ slice_set ss n (Latch l.0 l.1 next) =
    map-set signal_in drafts n new ∙ ap (slice_set ss n) (ap signal_in is ∙ l.4 next) in
    let here : slice_get ss n ≡ Some (Latch l.0 l.1 l.2) = slice_get-map_at signal_in drafts n d at ∙ ap Some l.3 in
    record {
      nodes_right = all.nodes_right ∙ sym (nodes_from-set 0 ss n (Latch l.0 l.1 l.2) (Latch l.0 l.1 next) here (λ m. refl)) ∙ ap (nodes_from 0) (sym same);
      signals_right = subst AreSignals (sym same) (AreSignals-next ss n l.0 l.1 l.2 next here all.signals_right (subst (λ k. signal_of next < k) (sym (length-map drafts signal_in)) there));
      reduced = subst AreReduced (sym same) (AreReduced-next ss n l.0 l.1 l.2 next here all.reduced);
    }
