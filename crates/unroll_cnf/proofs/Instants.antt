-- The clauses of all instants are satisfied just where the table that is shown meets all equations and demands.
use Rattle.std.proofs.Common.{◌≡◌, ℕ, zero, suc, ◌+◌, ◌<◌, Bool, true, false, List, [], length, Some, slice_get, refl, subst, arith}
use Rattle.std.specs.Prelude.{◌↔◌, All}
use Rattle.std.proofs.lemmas.Option.{slice_get_within}
use borrow.Author.Count.{below_more}
use Rattle.lll_core.specs.declared.signal.Signal.{Signal}
use Rattle.lll_core.specs.Signals.{signal_of, operands, AreSignals, NamesSignal}
use Rattle.lll_core.specs.Tables.{Instant, Table, signal_value, value, HoldsNow, HoldsAtStart, HoldsAfter, GatesHold, LatchesStart, LatchesFollow, IsWindow}
use Rattle.rup_checker.specs.Formulas.{Assignment, Satisfies}
use Rattle.unroll_cnf.specs.Clauses.{signal_clauses, clauses_from}
use Rattle.unroll_cnf.specs.Unrollings.{Demands, demand_clauses, instant_clauses, unrolled_clauses}
use Rattle.unroll_cnf.specs.Counterexamples.{shown_at, shown}
use Rattle.unroll_cnf.proofs.Equations.{Hold, signal_satisfied, satisfied-append, satisfied-first, satisfied-second, signals_satisfied, satisfied_signals, demands_satisfied}
use Rattle.unroll_cnf.proofs.Shown.{length-shown_at, shown-there, shown-at}
use Rattle.unroll_cnf.proofs.Truth.{satisfied_from}

-- a table that meets the equations and has the demanded literals true at each instant
pub record Meets (signals : List Signal) (window : Bool) (demands : Demands) (g : Table) : Type 0 where
  pub equations : IsWindow signals g
  pub start : window ≡ false → (now : Instant) → slice_get g 0 ≡ Some now → LatchesStart signals now
  pub demanded : (t : ℕ) (now : Instant) → slice_get g t ≡ Some now → All (λ d. value now d ≡ true) (demands t)

module _ (v : Assignment) (signals : List Signal) (window : Bool) (demands : Demands) where
  each_instant : (n : ℕ) → Satisfies v (unrolled_clauses signals window demands n) → (t : ℕ) → t < n → Satisfies v (instant_clauses signals window demands t)
  each_instant zero all t lt = absurd (omega (arith, lt))
  each_instant (suc n) all t lt = below_more (λ u. Satisfies v (instant_clauses signals window demands u)) n
      (each_instant n (satisfied-first v (unrolled_clauses signals window demands n) (instant_clauses signals window demands n) all))
      (satisfied-second v (unrolled_clauses signals window demands n) (instant_clauses signals window demands n) all) t (omega (arith, lt))

  all_instants : (n : ℕ) → ((t : ℕ) → t < n → Satisfies v (instant_clauses signals window demands t)) → Satisfies v (unrolled_clauses signals window demands n)
  all_instants zero each = satisfied_from v [] refl
  all_instants (suc n) each = satisfied-append v (unrolled_clauses signals window demands n) (instant_clauses signals window demands n)
      (all_instants n (λ t lt. each t (omega (arith, lt)))) (each n (omega arith))

  module _ (are : AreSignals signals) (n : ℕ) (there : (t : ℕ) → t < n → All (NamesSignal signals) (demands t)) where
    lower : (k : ℕ) (s : Signal) → slice_get signals k ≡ Some s → All (λ a. signal_of a < length signals) (operands s)
    lower k s at = λ i d lt. omega (arith, are.lower k s at i d lt, slice_get_within signals k s at)

    iff : (t k : ℕ) (s : Signal) → slice_get signals k ≡ Some s
        → Satisfies v (signal_clauses (length signals) window t k s) ↔ Hold v (length signals) window t s (signal_value (shown_at (length signals) v t) k)
    iff t k s at = signal_satisfied v (length signals) window t k (slice_get_within signals k s at) s (lower k s at) (are.next k s at)

    -- the equations of an instant
    hold : Satisfies v (unrolled_clauses signals window demands n) → (t : ℕ) → t < n → (k : ℕ) (s : Signal) → slice_get signals k ≡ Some s
        → Hold v (length signals) window t s (signal_value (shown_at (length signals) v t) k)
    hold all t lt k s at =
        let e : 0 + k ≡ k = omega arith in
        (iff t k s at).0 (subst (λ m. Satisfies v (signal_clauses (length signals) window t m s)) e
        (signals_satisfied v (length signals) window t 0 signals
        (satisfied-first v (clauses_from (length signals) window t 0 signals) (demand_clauses (length signals) t (demands t)) (each_instant n all t lt)) k s at))

    pub shown_meets : Satisfies v (unrolled_clauses signals window demands n) → Meets signals window demands (shown signals n v)
    shown_meets all = record {
      equations = record { lengths = lengths; gates = gates; latches = latches };
      start = start;
      demanded = demanded;
    }
      where
        lengths : (t : ℕ) (now : Instant) → slice_get (shown signals n v) t ≡ Some now → length now ≡ length signals
        lengths t now at = subst (λ x. length x ≡ length signals) (shown-at signals n v t now at).1 (length-shown_at signals n v t)

        gates : (t : ℕ) (now : Instant) → slice_get (shown signals n v) t ≡ Some now → GatesHold signals now
        gates t now at k s is =
            let there = shown-at signals n v t now at in
            subst (λ x. HoldsNow x s (signal_value x k)) there.1 (hold all t there.0 k s is).now

        latches : (t : ℕ) (before now : Instant) → slice_get (shown signals n v) t ≡ Some before → slice_get (shown signals n v) (t + 1) ≡ Some now → LatchesFollow signals before now
        latches t before now at after k s is =
            let first = shown-at signals n v t before at in
            let second = shown-at signals n v (t + 1) now after in
            subst (λ x. HoldsAfter x s (signal_value now k)) first.1
            (subst (λ x. HoldsAfter (shown_at (length signals) v t) s (signal_value x k)) second.1 ((hold all (t + 1) second.0 k s is).after t (omega arith)))

        start : window ≡ false → (now : Instant) → slice_get (shown signals n v) 0 ≡ Some now → LatchesStart signals now
        start e now at k s is =
            let there = shown-at signals n v 0 now at in
            subst (λ x. HoldsAtStart x s (signal_value x k)) there.1 ((hold all 0 there.0 k s is).start e refl)

        demanded : (t : ℕ) (now : Instant) → slice_get (shown signals n v) t ≡ Some now → All (λ d. value now d ≡ true) (demands t)
        demanded t now at =
            let is = shown-at signals n v t now at in
            subst (λ x. All (λ d. value x d ≡ true) (demands t)) is.1
            ((demands_satisfied v (length signals) t (demands t) (there t is.0)).0
            (satisfied-second v (clauses_from (length signals) window t 0 signals) (demand_clauses (length signals) t (demands t)) (each_instant n all t is.0)))

    pub shown_satisfied : Meets signals window demands (shown signals n v) → Satisfies v (unrolled_clauses signals window demands n)
    shown_satisfied meets = all_instants n instant
      where
        holds : (t : ℕ) → t < n → (k : ℕ) (s : Signal) → slice_get signals k ≡ Some s → Hold v (length signals) window t s (signal_value (shown_at (length signals) v t) k)
        holds t lt k s is = record {
          now = meets.equations.gates t (shown_at (length signals) v t) (shown-there signals n v t lt) k s is;
          start = λ e f. meets.start e (shown_at (length signals) v t) (subst (λ u. slice_get (shown signals n v) u ≡ Some (shown_at (length signals) v t)) f (shown-there signals n v t lt)) k s is;
          after = λ b e.
              let f : t ≡ b + 1 = omega (arith, e) in
              meets.equations.latches b (shown_at (length signals) v b) (shown_at (length signals) v t) (shown-there signals n v b (omega (arith, e, lt)))
              (subst (λ u. slice_get (shown signals n v) u ≡ Some (shown_at (length signals) v t)) f (shown-there signals n v t lt)) k s is;
        }

        instant : (t : ℕ) → t < n → Satisfies v (instant_clauses signals window demands t)
        instant t lt = satisfied-append v (clauses_from (length signals) window t 0 signals) (demand_clauses (length signals) t (demands t))
            (satisfied_signals v (length signals) window t 0 signals (λ k s at.
            let e : k ≡ 0 + k = omega arith in
            subst (λ m. Satisfies v (signal_clauses (length signals) window t m s)) e ((iff t k s at).1 (holds t lt k s at))))
            ((demands_satisfied v (length signals) t (demands t) (there t lt)).1 (meets.demanded t (shown_at (length signals) v t) (shown-there signals n v t lt)))
