-- The clauses of signals at an instant are satisfied just where the equations hold at the instants that are shown.
use Rattle.std.proofs.Common.{◌≡◌, ℕ, zero, suc, ◌+◌, ◌<◌, ◌≤◌, Bool, true, false, List, [], ◌∷◌, ◌++◌, Some, slice_get, refl, sym, ap, subst, ◌∙◌, true≢false, arith}
use Rattle.std.specs.Prelude.{ℤ, pos, not, ◌||◌, ◌↔◌, All, Any}
use Rattle.std.proofs.lemmas.Option.{none-some, same_Some}
use Rattle.std.proofs.lemmas.List.Elements.{All-append, All-head, All-tail, All-cons}
use Rattle.lll_core.specs.declared.signal.Signal.{Signal}
use Rattle.lll_core.specs.declared.signal.Signal.TheVariants.{One, Input, Latch, Imp, Eqv}
use Rattle.lll_core.specs.Signals.{signal_of, operands, nexts}
use Rattle.lll_core.specs.Tables.{signal_value, value, are_equal, HoldsNow, HoldsAtStart, HoldsAfter}
use Rattle.rup_checker.specs.Formulas.{Assignment, truth, Satisfies}
use Rattle.unroll_cnf.specs.Clauses.{variable_at, literal_at, latch_clauses, signal_clauses, clauses_from, equality_clauses, implication_clauses, equivalence_clauses}
use Rattle.unroll_cnf.specs.Unrollings.{demand_clauses}
use Rattle.unroll_cnf.specs.Counterexamples.{shown_at}
use Rattle.unroll_cnf.proofs.ListLemmas.{All-first, All-second}
use Rattle.unroll_cnf.proofs.Truth.{satisfied_from, unit_clause, implication_satisfied, equivalence_satisfied, equality_satisfied}
use Rattle.unroll_cnf.proofs.Shown.{signal_value-shown, value-shown, literal_some}

module _ (v : Assignment) (size : ℕ) where
  -- the equations of a signal with this value at an instant
  pub record Hold (window : Bool) (instant : ℕ) (s : Signal) (x : Bool) : Type 0 where
    pub now : HoldsNow (shown_at size v instant) s x
    pub start : window ≡ false → instant ≡ 0 → HoldsAtStart (shown_at size v instant) s x
    pub after : (before : ℕ) → instant ≡ suc before → HoldsAfter (shown_at size v before) s x

  module _ (instant n : ℕ) (there : n < size) where
    -- the value of the signal is the truth of its variable
    own : signal_value (shown_at size v instant) n ≡ truth v (pos (variable_at size instant n))
    own = signal_value-shown v size instant n there

    own_some : 1 ≤ variable_at size instant n
    own_some = omega arith

    -- a gate of two operands, by what its clauses say
    gate : (f : Bool → Bool → Bool) (clauses : List (List ℤ)) (a b : ℕ) → signal_of a < size → signal_of b < size
        → Satisfies v clauses ↔ (truth v (pos (variable_at size instant n)) ≡ f (truth v (literal_at size instant a)) (truth v (literal_at size instant b)))
        → Satisfies v clauses ↔ (signal_value (shown_at size v instant) n ≡ f (value (shown_at size v instant) a) (value (shown_at size v instant) b))
    gate f clauses a b la lb iff =
        let p = value-shown v size instant a la in
        let q = value-shown v size instant b lb in (
          λ s. own ∙ iff.0 s ∙ ap (λ y. f y (truth v (literal_at size instant b))) (sym p) ∙ ap (f (value (shown_at size v instant) a)) (sym q),
          λ e. iff.1 (sym own ∙ e ∙ ap (λ y. f y (value (shown_at size v instant) b)) p ∙ ap (f (truth v (literal_at size instant a))) q),
        )

    -- a latch that is equal to a literal at an instant
    latch : (at literal : ℕ) → signal_of literal < size
        → Satisfies v (equality_clauses (pos (variable_at size instant n)) (literal_at size at literal))
        ↔ (signal_value (shown_at size v instant) n ≡ value (shown_at size v at) literal)
    latch at literal lt =
        let p = value-shown v size at literal lt in
        let iff = equality_satisfied v (pos (variable_at size instant n)) (literal_at size at literal) own_some (literal_some v size at literal) in
        (λ s. own ∙ iff.0 s ∙ sym p, λ e. iff.1 (sym own ∙ e ∙ p))

  -- a latch, at the first instant of a run or a window, and at an instant that follows another
  latch_satisfied : (window : Bool) (instant n : ℕ) → n < size → (name : List ℕ) (init next : ℕ) → signal_of init < size → signal_of next < size
      → Satisfies v (latch_clauses size window instant (pos (variable_at size instant n)) init next)
      ↔ Hold window instant (Latch name init next) (signal_value (shown_at size v instant) n)
  latch_satisfied true zero n there name init next li ln = (
    λ s. record { now = tt; start = λ e f. absurd (true≢false e); after = λ before e. absurd (omega (arith, e)) },
    λ h. satisfied_from v [] refl,
  )
  latch_satisfied false zero n there name init next li ln =
      let iff = latch zero n there zero init li in (
        λ s. record { now = tt; start = λ e f. iff.0 s; after = λ before e. absurd (omega (arith, e)) },
        λ h. iff.1 (h.start refl refl),
      )
  latch_satisfied window (suc before) n there name init next li ln =
      let iff = latch (suc before) n there before next ln in
      let x = signal_value (shown_at size v (suc before)) n in (
        λ s. record {
          now = tt;
          start = λ e f. absurd (omega (arith, f));
          after = λ b e. let same : before ≡ b = omega (arith, e) in subst (λ k. x ≡ value (shown_at size v k) next) same (iff.0 s);
        },
        λ h. iff.1 (h.after before refl),
      )

  -- a signal
  pub signal_satisfied : (window : Bool) (instant n : ℕ) → n < size → (s : Signal) → All (λ a. signal_of a < size) (operands s) → All (λ a. signal_of a < size) (nexts s)
      → Satisfies v (signal_clauses size window instant n s) ↔ Hold window instant s (signal_value (shown_at size v instant) n)
  signal_satisfied window instant n there One ops nxt =
      let iff = unit_clause v (pos (variable_at size instant n)) in (
        λ s. record { now = own instant n there ∙ iff.0 s; start = λ e f. tt; after = λ before e. tt },
        λ h. iff.1 (sym (own instant n there) ∙ h.now),
      )
  signal_satisfied window instant n there (Input name) ops nxt = (
    λ s. record { now = tt; start = λ e f. tt; after = λ before e. tt },
    λ h. satisfied_from v [] refl,
  )
  signal_satisfied window instant n there (Latch name init next) ops nxt =
      latch_satisfied window instant n there name init next (All-head (λ a. signal_of a < size) init [] ops) (All-head (λ a. signal_of a < size) next [] nxt)
  signal_satisfied window instant n there (Imp a b) ops nxt =
      let iff = gate instant n there (λ p q. not p || q) (implication_clauses (pos (variable_at size instant n)) (literal_at size instant a) (literal_at size instant b)) a b
      (All-head (λ l. signal_of l < size) a (b ∷ []) ops) (All-head (λ l. signal_of l < size) b [] (All-tail (λ l. signal_of l < size) a (b ∷ []) ops))
      (implication_satisfied v (pos (variable_at size instant n)) (literal_at size instant a) (literal_at size instant b) (own_some instant n there)
      (literal_some v size instant a) (literal_some v size instant b)) in (
        λ s. record { now = iff.0 s; start = λ e f. tt; after = λ before e. tt },
        λ h. iff.1 h.now,
      )
  signal_satisfied window instant n there (Eqv a b) ops nxt =
      let iff = gate instant n there are_equal (equivalence_clauses (pos (variable_at size instant n)) (literal_at size instant a) (literal_at size instant b)) a b
      (All-head (λ l. signal_of l < size) a (b ∷ []) ops) (All-head (λ l. signal_of l < size) b [] (All-tail (λ l. signal_of l < size) a (b ∷ []) ops))
      (equivalence_satisfied v (pos (variable_at size instant n)) (literal_at size instant a) (literal_at size instant b) (own_some instant n there)
      (literal_some v size instant a) (literal_some v size instant b)) in (
        λ s. record { now = iff.0 s; start = λ e f. tt; after = λ before e. tt },
        λ h. iff.1 h.now,
      )

-- ---- lists of clauses

module _ (v : Assignment) where
  pub satisfied-append : (xs ys : List (List ℤ)) → Satisfies v xs → Satisfies v ys → Satisfies v (xs ++ ys)
  satisfied-append xs ys = All-append (Any (λ l. truth v l ≡ true)) xs ys

  pub satisfied-first : (xs ys : List (List ℤ)) → Satisfies v (xs ++ ys) → Satisfies v xs
  satisfied-first xs ys s = All-first (Any (λ l. truth v l ≡ true)) xs ys s

  pub satisfied-second : (xs ys : List (List ℤ)) → Satisfies v (xs ++ ys) → Satisfies v ys
  satisfied-second xs ys s = All-second (Any (λ l. truth v l ≡ true)) xs ys s

  -- the clauses of all signals from n on
  pub signals_satisfied : (size : ℕ) (window : Bool) (instant n : ℕ) (signals : List Signal)
      → Satisfies v (clauses_from size window instant n signals)
      → (k : ℕ) (s : Signal) → slice_get signals k ≡ Some s → Satisfies v (signal_clauses size window instant (n + k) s)
  signals_satisfied size window instant n [] all k s at = absurd (none-some s at)
  signals_satisfied size window instant n (r ∷ signals) all zero s at =
      let e : n ≡ n + 0 = omega arith in
      subst (λ m. Satisfies v (signal_clauses size window instant m s)) e
      (subst (λ q. Satisfies v (signal_clauses size window instant n q)) (same_Some r s at)
      (satisfied-first (signal_clauses size window instant n r) (clauses_from size window instant (n + 1) signals) all))
  signals_satisfied size window instant n (r ∷ signals) all (suc k) s at =
      let e : n + 1 + k ≡ n + suc k = omega arith in
      subst (λ m. Satisfies v (signal_clauses size window instant m s)) e
      (signals_satisfied size window instant (n + 1) signals (satisfied-second (signal_clauses size window instant n r) (clauses_from size window instant (n + 1) signals) all) k s at)

  pub satisfied_signals : (size : ℕ) (window : Bool) (instant n : ℕ) (signals : List Signal)
      → ((k : ℕ) (s : Signal) → slice_get signals k ≡ Some s → Satisfies v (signal_clauses size window instant (n + k) s))
      → Satisfies v (clauses_from size window instant n signals)
  satisfied_signals size window instant n [] each = satisfied_from v [] refl
  satisfied_signals size window instant n (r ∷ signals) each =
      satisfied-append (signal_clauses size window instant n r) (clauses_from size window instant (n + 1) signals)
      (let e : n + 0 ≡ n = omega arith in subst (λ m. Satisfies v (signal_clauses size window instant m r)) e (each 0 r refl))
      (satisfied_signals size window instant (n + 1) signals (λ k s at.
      let e : n + suc k ≡ n + 1 + k = omega arith in subst (λ m. Satisfies v (signal_clauses size window instant m s)) e (each (suc k) s at)))

  -- the clauses of what is demanded
  pub demands_satisfied : (size instant : ℕ) (literals : List ℕ) → All (λ d. signal_of d < size) literals
      → Satisfies v (demand_clauses size instant literals) ↔ All (λ d. value (shown_at size v instant) d ≡ true) literals
  demands_satisfied size instant [] there = (λ s k d lt. absurd (omega (arith, lt)), λ a. satisfied_from v [] refl)
  demands_satisfied size instant (d ∷ literals) there =
      let True = λ (e : ℕ). value (shown_at size v instant) e ≡ true in
      let Some_true = Any (λ (l : ℤ). truth v l ≡ true) in
      let iff = unit_clause v (literal_at size instant d) in
      let is = value-shown v size instant d (All-head (λ e. signal_of e < size) d literals there) in
      let rest = demands_satisfied size instant literals (All-tail (λ e. signal_of e < size) d literals there) in
      let own = (literal_at size instant d ∷ []) ∷ [] in
      let others = demand_clauses size instant literals in (
        λ s. All-cons True d literals (is ∙ iff.0 (satisfied-first own others s)) (rest.0 (satisfied-second own others s)),
        λ a. satisfied-append own others (iff.1 (sym is ∙ All-head True d literals a)) (rest.1 (All-tail True d literals a)),
      )
