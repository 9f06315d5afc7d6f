-- What is read off an assignment, and the one table with these inputs and latches.
use Rattle.std.proofs.Common.{◌≡◌, ℕ, suc, ◌+◌, ◌*◌, ◌-◌, ◌<◌, Bool, true, false, List, [], ◌∷◌, ◌++◌, length, take, get_or, map, Some, slice_get, refl, sym, ap, subst, ◌∙◌, arith, add-one}
use Rattle.std.specs.Prelude.{if◌then◌else◌}
use Rattle.std.proofs.lemmas.List.{take_more, length-take-le, map-append}
use Rattle.std.proofs.lemmas.List.FromFn.{map-range_with_len_more}
use Rattle.std.proofs.lemmas.Option.{slice_get_within}
use Rattle.lll_core.specs.declared.signal.Signal.{Signal}
use Rattle.std.proofs.lemmas.List.Elements.{All-cons}
use Rattle.lll_core.specs.declared.lll.Lll.{Lll}
use Rattle.lll_core.specs.Signals.{is_input, is_latch}
use Rattle.lll_core.specs.Tables.{Instant, Table, IsRun, IsWindow, AreInputs, values_where, input_count, input_values, latch_values}
use Rattle.lll_core.proofs.RowLemmas.{length-values_where}
use Rattle.lll_core.proofs.TableLemmas.{run_there, window_there}
use Rattle.rup_checker.specs.Formulas.{Assignment, Satisfies, listed}
use Rattle.unroll_cnf.specs.Clauses.{variable_at}
use Rattle.unroll_cnf.specs.Unrollings.{base_formula, step_formula}
use Rattle.unroll_cnf.specs.Counterexamples.{shown_at, shown, IsCounterexample, IsInductionCounterexample}
use Rattle.unroll_cnf.proofs.Exact.{base_exact, step_exact}
use Rattle.unroll_cnf.proofs.ListLemmas.{take-more, All-none}
use Rattle.unroll_cnf.proofs.Shown.{signal_value-shown}

module _ (p : Signal → Bool) where
  values_where-push : (signals : List Signal) (now : Instant) (s : Signal) (x : Bool) → length now ≡ length signals
      → values_where p (signals ++ s ∷ []) (now ++ x ∷ []) ≡ values_where p signals now ++ (if p s then x ∷ [] else [])
  values_where-push [] [] s x long = refl
  values_where-push [] (y ∷ now) s x long = absurd (omega (arith, long))
  values_where-push (r ∷ signals) [] s x long = absurd (omega (arith, long))
  values_where-push (r ∷ signals) (y ∷ now) s x long = by (p r) (values_where-push signals now s x (omega (arith, long)))
    where
      by : (b : Bool) → values_where p (signals ++ s ∷ []) (now ++ x ∷ []) ≡ values_where p signals now ++ (if p s then x ∷ [] else [])
          → (if b then y ∷ values_where p (signals ++ s ∷ []) (now ++ x ∷ []) else values_where p (signals ++ s ∷ []) (now ++ x ∷ []))
          ≡ (if b then y ∷ values_where p signals now else values_where p signals now) ++ (if p s then x ∷ [] else [])
      by true rest = ap (λ ys. y ∷ ys) rest
      by false rest = rest

  -- the value of one signal more
  pub values_where-more : (signals : List Signal) (now : Instant) (n : ℕ) (s : Signal) → length now ≡ length signals → slice_get signals n ≡ Some s
      → values_where p (take (n + 1) signals) (take (n + 1) now) ≡ values_where p (take n signals) (take n now) ++ (if p s then get_or now n false ∷ [] else [])
  values_where-more signals now n s long at =
      let within = slice_get_within signals n s at in
      ap (λ xs. values_where p xs (take (n + 1) now)) (take-more signals n s at)
      ∙ ap (values_where p (take n signals ++ s ∷ [])) (take_more now n false (omega (arith, within, long)))
      ∙ values_where-push (take n signals) (take n now) s (get_or now n false)
      (length-take-le n now (omega (arith, within, long)) ∙ sym (length-take-le n signals (omega (arith, within))))

-- where a value stands in an assignment
pub value-listed : (values : List Bool) (size t n : ℕ) → n < size → get_or (shown_at size (listed values) t) n false ≡ get_or values (t * size + n) false
value-listed values size t n lt =
    let e : variable_at size t n - 1 ≡ t * size + n = omega arith in
    signal_value-shown (listed values) size t n lt ∙ ap (λ k. get_or values k false) e

-- the rows of one instant more
pub rows_more : (f : Instant → List Bool) (signals : List Signal) (n : ℕ) (v : Assignment)
    → map f (shown signals (n + 1) v) ≡ map f (shown signals n v) ++ f (shown_at (length signals) v n) ∷ []
rows_more f signals n v = ap (map f) (map-range_with_len_more (shown_at (length signals) v) 0 n n (omega arith)) ∙ map-append f (shown signals n v) (shown_at (length signals) v n ∷ [])

-- ---- the one table

-- the table that is shown has a row of inputs for each instant
rows_long : (signals : List Signal) (g : Table) → ((t : ℕ) (now : Instant) → slice_get g t ≡ Some now → length now ≡ length signals) → AreInputs signals (map (input_values signals) g)
rows_long signals [] long = All-none (λ xs. length xs ≡ input_count signals)
rows_long signals (r ∷ g) long = All-cons (λ xs. length xs ≡ input_count signals) (input_values signals r) (map (input_values signals) g)
    (length-values_where is_input signals r (long 0 r refl)) (rows_long signals g (λ t now at. long (suc t) now at))

module _ (l : Lll) where
  -- runs with the same inputs are the same
  pub same_run : (g h : Table) → IsRun l.signals g → IsRun l.signals h → map (input_values l.signals) h ≡ map (input_values l.signals) g → h ≡ g
  same_run g h run other e =
      let one = (run_there l.signals l.is_lll.are_signals.lower (map (input_values l.signals) g) (rows_long l.signals g run.window.lengths)).1 in
      one.only h (other, e) ∙ sym (one.only g (run, refl))

  -- windows with the same inputs and the same latches at the first instant are the same
  pub same_window : (g h : Table) → 0 < length g → IsWindow l.signals g → IsWindow l.signals h → map (input_values l.signals) h ≡ map (input_values l.signals) g
      → map (latch_values l.signals) (take 1 h) ≡ map (latch_values l.signals) (take 1 g) → h ≡ g
  same_window [] h some window other e f = absurd (omega (arith, some))
  same_window (r ∷ g) h some window other e f =
      let one = (window_there l.signals l.is_lll.are_signals.lower (input_values l.signals r) (map (input_values l.signals) g) (latch_values l.signals r)
      (rows_long l.signals (r ∷ g) window.lengths) (length-values_where is_latch l.signals r (window.lengths 0 r refl))).1 in
      one.only h (other, e, f) ∙ sym (one.only (r ∷ g) (window, refl, refl))

  -- the run with the inputs that are shown is a counterexample
  pub run_shown : (v : Assignment) (p j : ℕ) (g : Table) → p < length l.obligations → Satisfies v (base_formula l p j).clauses → IsRun l.signals g
      → map (input_values l.signals) g ≡ map (input_values l.signals) (shown l.signals (j + 1) v) → IsCounterexample l p j g
  run_shown v p j g within s run e =
      let is = ((base_exact l p within j).shows v).0 s in
      subst (IsCounterexample l p j) (sym (same_run (shown l.signals (j + 1) v) g is.run run e)) is

  -- and the window with the inputs and the first latches that are shown
  pub window_shown : (v : Assignment) (p k : ℕ) (g : Table) → p < length l.obligations → Satisfies v (step_formula l p k).clauses → IsWindow l.signals g
      → map (input_values l.signals) g ≡ map (input_values l.signals) (shown l.signals (k + 1) v)
      → map (latch_values l.signals) (take 1 g) ≡ latch_values l.signals (shown_at (length l.signals) v 0) ∷ [] → IsInductionCounterexample l p k g
  window_shown v p k g within s window e f =
      let is = ((step_exact l p within k).shows v).0 s in
      let first : map (latch_values l.signals) (take 1 (shown l.signals (k + 1) v)) ≡ latch_values l.signals (shown_at (length l.signals) v 0) ∷ [] = ap (λ n. map (latch_values l.signals) (take 1 (shown l.signals n v))) (add-one k) in
      subst (IsInductionCounterexample l p k) (sym (same_window (shown l.signals (k + 1) v) g (omega (arith, is.long)) is.window window e (f ∙ sym first))) is
