-- Each formula describes the tables that it is about.
use Rattle.std.proofs.Common.{◌≡◌, ℕ, ◌+◌, ◌<◌, ◌==◌, Bool, true, false, List, [], ◌∷◌, ◌++◌, length, sym, subst}
use Rattle.std.specs.Prelude.{◌↔◌, All, if◌then◌else◌}
use Rattle.std.proofs.lemmas.List.Elements.{All-append, All-cons, All-get_or}
use Rattle.lll_core.specs.declared.signal.Signal.{Signal}
use Rattle.lll_core.specs.declared.lll.Lll.{Lll}
use Rattle.lll_core.specs.Signals.{AreSignals, NamesSignal}
use Rattle.lll_core.specs.Tables.{Table}
use Rattle.miter.specs.declared.parts.MiterLll.{MiterLll}
use Rattle.rup_checker.specs.Formulas.{Assignment, Satisfies}
use Rattle.unroll_cnf.specs.Unrollings.{Demands, opposite, unrolled_clauses, base_demands, step_demands, part_base_demands, part_step_demands, obligation, part, base_formula, step_formula, part_base_formula, part_step_formula}
use Rattle.unroll_cnf.specs.Counterexamples.{IsCounterexample, IsInductionCounterexample, IsPartCounterexample, IsPartInductionCounterexample, shown, assignment_of, Describes}
use Rattle.unroll_cnf.proofs.Demanded.{signal_of-opposite, is_counterexample, counterexample_meets, is_induction_counterexample, induction_counterexample_meets, is_part_counterexample, part_counterexample_meets, is_part_induction_counterexample, part_induction_counterexample_meets}
use Rattle.unroll_cnf.proofs.Instants.{Meets, shown_meets, shown_satisfied}
use Rattle.unroll_cnf.proofs.ListLemmas.{All-none, All-one}
use Rattle.unroll_cnf.proofs.Shown.{length-shown, shown-assignment_of}

module _ (signals : List Signal) (window : Bool) (demands : Demands) (n : ℕ) (Is : Table → Type 0) (are : AreSignals signals)
    (there : (t : ℕ) → t < n → All (NamesSignal signals) (demands t))
    (is : (g : Table) → length g ≡ n → Meets signals window demands g → Is g)
    (meets : (g : Table) → Is g → (length g ≡ n) × Meets signals window demands g) where
  shows : (v : Assignment) → Satisfies v (unrolled_clauses signals window demands n) ↔ Is (shown signals n v)
  shows v = (
    λ s. is (shown signals n v) (length-shown signals n v) (shown_meets v signals window demands are n there s),
    λ i. shown_satisfied v signals window demands are n there (meets (shown signals n v) i).1,
  )

  made : (g : Table) → Is g → shown signals n (assignment_of g) ≡ g
  made g i =
      let m = meets g i in
      subst (λ k. shown signals k (assignment_of g) ≡ g) m.0 (shown-assignment_of signals g m.1.equations.lengths)

  describes : Describes (unrolled_clauses signals window demands n) signals n Is
  describes = record {
    shows = shows;
    there = made;
    satisfiable = (
      λ s. (shown signals n s.0, (shows s.0).0 s.1),
      λ i. (assignment_of i.0, (shows (assignment_of i.0)).1 (subst Is (sym (made i.0 i.1)) i.1)),
    );
  }

-- the opposite of a literal names the same signal
pub opposite_there : (signals : List Signal) (p : ℕ) → NamesSignal signals p → NamesSignal signals (opposite p)
opposite_there signals p lt = subst (λ k. k < length signals) (sym (signal_of-opposite p)) lt

-- one of two literals
choice_there : (signals : List Signal) (b : Bool) (p q : ℕ) → NamesSignal signals p → NamesSignal signals q → NamesSignal signals (if b then p else q)
choice_there signals true p q lp lq = lp
choice_there signals false p q lp lq = lq

-- literals or none
pub some_there : (signals : List Signal) (b : Bool) (ps qs : List ℕ) → All (NamesSignal signals) ps → All (NamesSignal signals) qs → All (NamesSignal signals) (if b then ps else qs)
some_there signals true ps qs lp lq = lp
some_there signals false ps qs lp lq = lq

module _ (l : Lll) (p : ℕ) (within : p < length l.obligations) where
  obligation_there : NamesSignal l.signals (obligation l p)
  obligation_there = All-get_or (NamesSignal l.signals) l.obligations p 0 within l.is_lll.obligations_there

  pub base_there : (j t : ℕ) → All (NamesSignal l.signals) (base_demands l (obligation l p) j t)
  base_there j t = All-cons (NamesSignal l.signals) l.assume (l.constraints ++ (if t == j then opposite (obligation l p) ∷ [] else [])) l.is_lll.assume_there
      (All-append (NamesSignal l.signals) l.constraints (if t == j then opposite (obligation l p) ∷ [] else []) l.is_lll.constraints_there
      (some_there l.signals (t == j) (opposite (obligation l p) ∷ []) []
      (All-one (NamesSignal l.signals) (opposite (obligation l p)) (opposite_there l.signals (obligation l p) obligation_there)) (All-none (NamesSignal l.signals))))

  pub step_there : (k t : ℕ) → All (NamesSignal l.signals) (step_demands l (obligation l p) k t)
  step_there k t = All-append (NamesSignal l.signals) ((if t == 0 then l.keep ∷ [] else []) ++ l.assume ∷ l.constraints) ((if t == k then opposite (obligation l p) else obligation l p) ∷ [])
      (All-append (NamesSignal l.signals) (if t == 0 then l.keep ∷ [] else []) (l.assume ∷ l.constraints)
      (some_there l.signals (t == 0) (l.keep ∷ []) [] (All-one (NamesSignal l.signals) l.keep l.is_lll.keep_there) (All-none (NamesSignal l.signals)))
      (All-cons (NamesSignal l.signals) l.assume l.constraints l.is_lll.assume_there l.is_lll.constraints_there))
      (All-one (NamesSignal l.signals) (if t == k then opposite (obligation l p) else obligation l p)
      (choice_there l.signals (t == k) (opposite (obligation l p)) (obligation l p) (opposite_there l.signals (obligation l p) obligation_there) obligation_there))

  pub base_exact : (j : ℕ) → Describes (base_formula l p j).clauses l.signals (j + 1) (IsCounterexample l p j)
  base_exact j = describes l.signals false (base_demands l (obligation l p) j) (j + 1) (IsCounterexample l p j) l.is_lll.are_signals
      (λ t lt. base_there j t) (λ g long meets. is_counterexample l p j g long meets) (λ g is. (is.long, counterexample_meets l p j g is))

  pub step_exact : (k : ℕ) → Describes (step_formula l p k).clauses l.signals (k + 1) (IsInductionCounterexample l p k)
  step_exact k = describes l.signals true (step_demands l (obligation l p) k) (k + 1) (IsInductionCounterexample l p k) l.is_lll.are_signals
      (λ t lt. step_there k t) (λ g long meets. is_induction_counterexample l p k g long meets) (λ g is. (is.long, induction_counterexample_meets l p k g is))

module _ (m : MiterLll) (i : ℕ) (within : i < length m.parts) where
  pub part_there : NamesSignal m.lll.signals (opposite (part m i))
  part_there = opposite_there m.lll.signals (part m i) (All-get_or (NamesSignal m.lll.signals) m.parts i 0 within m.are_parts.there)

  pub part_base_exact : Describes (part_base_formula m i).clauses m.lll.signals 1 (IsPartCounterexample m i)
  part_base_exact = describes m.lll.signals false (part_base_demands m.lll (part m i)) 1 (IsPartCounterexample m i) m.lll.is_lll.are_signals
      (λ t lt. All-cons (NamesSignal m.lll.signals) m.lll.assume (opposite (part m i) ∷ []) m.lll.is_lll.assume_there (All-one (NamesSignal m.lll.signals) (opposite (part m i)) part_there))
      (λ g long meets. is_part_counterexample m i g long meets) (λ g is. (is.long, part_counterexample_meets m i g is))

  pub part_step_exact : Describes (part_step_formula m i).clauses m.lll.signals 2 (IsPartInductionCounterexample m i)
  part_step_exact = describes m.lll.signals true (part_step_demands m.lll m.parts (part m i)) 2 (IsPartInductionCounterexample m i) m.lll.is_lll.are_signals
      (λ t lt. All-cons (NamesSignal m.lll.signals) m.lll.assume (if t == 0 then m.parts else opposite (part m i) ∷ []) m.lll.is_lll.assume_there
      (some_there m.lll.signals (t == 0) m.parts (opposite (part m i) ∷ []) m.are_parts.there (All-one (NamesSignal m.lll.signals) (opposite (part m i)) part_there)))
      (λ g long meets. is_part_induction_counterexample m i g long meets) (λ g is. (is.long, part_induction_counterexample_meets m i g is))
