-- Induction over windows of k + 1 instants.
use Rattle.std.proofs.Common.{◌≡◌, ℕ, zero, suc, ◌+◌, ◌-◌, ◌<◌, ◌≤◌, Bool, true, false, List, [], length, take, drop, refl, sym, ap, ◌∙◌, arith, ◌⊎◌, inl, inr}
use Rattle.std.specs.Prelude.{All}
use Rattle.std.proofs.lemmas.List.{length-take-le, length-drop}
use Rattle.std.proofs.lemmas.List.Elements.{All-take, All-drop, All-get_or}
use Rattle.lll_core.specs.declared.lll.Lll.{Lll}
use Rattle.lll_core.specs.Tables.{Table, value, IsRun}
use Rattle.rup_checker.specs.declared.log.Log.{Log}
use Rattle.unroll_cnf.specs.Unrollings.{obligation}
use Rattle.unroll_cnf.specs.Counterexamples.{instant_at, IsAdmitted}
use Rattle.kinduction.specs.Rounds.{IsProof}
use Rattle.kinduction.specs.Runs.{Holds}
use Rattle.kinduction.proofs.Pieces.{run-front, window-rest, instant-front, instant-rest}
use Rattle.kinduction.proofs.Refuted.{no_short_break, no_induction_break}

-- a value that isn't false
pub not_false : (b : Bool) → (b ≡ false → ⊥) → b ≡ true
not_false true h = refl
not_false false h = absurd (h refl)

-- one number is below the other, or not
pub below_or_not : (a b : ℕ) → (a < b) ⊎ (b ≤ a)
below_or_not zero zero = inr (omega arith)
below_or_not zero (suc b) = inl (omega arith)
below_or_not (suc a) zero = inr (omega arith)
below_or_not (suc a) (suc b) = elim (below_or_not a b) [ inl lt ↦ inl (omega (arith, lt)) | inr le ↦ inr (omega (arith, le)) ]

module _ (l : Lll) (p k : ℕ) (bases : List Log) (step : Log) (within : p < length l.obligations) (proof : IsProof l p k bases step) where
  -- a run that meets assume, keep and the constraints throughout
  record IsMet (g : Table) : Type 0 where
    run : IsRun l.signals g
    admitted : All (IsAdmitted l) g
    kept : All (λ now. value now l.keep ≡ true) g

  met-front : (n : ℕ) (g : Table) → IsMet g → IsMet (take n g)
  met-front n g met = record {
    run = run-front l.signals n g met.run;
    admitted = All-take (IsAdmitted l) n g met.admitted;
    kept = All-take (λ now. value now l.keep ≡ true) n g met.kept;
  }

  -- the first instants, by the base formulas
  early : (g : Table) (t : ℕ) → IsMet g → length g ≡ t + 1 → t < k → value (instant_at g t) (obligation l p) ≡ true
  early g t met long lt = not_false (value (instant_at g t) (obligation l p))
      (λ broken. no_short_break l p within bases proof.bases_refuted t (omega (arith, lt, proof.count)) g
      (record { run = met.run; long = long; admitted = met.admitted; broken = broken }))

  -- an instant after k others, by the step formula
  late : (g : Table) (t : ℕ) → IsMet g → length g ≡ t + 1 → k ≤ t → ((s : ℕ) → s < t → value (instant_at g s) (obligation l p) ≡ true)
      → value (instant_at g t) (obligation l p) ≡ true
  late g t met long le before = not_false (value (instant_at g t) (obligation l p)) (λ broken.
      let n = t - k in
      let window = drop n g in
      let long' : length window ≡ k + 1 = omega (arith, length-drop n g, long, le) in
      let last : n + k ≡ t = omega (arith, le) in
      let at = λ (i : ℕ). ap (λ now. value now (obligation l p)) (instant-rest l.signals n g i) in
      no_induction_break l p within step.steps k proof.step_refuted window (record {
        window = window-rest l.signals n g met.run.window;
        long = long';
        kept = All-get_or (λ now. value now l.keep ≡ true) window 0 [] (omega (arith, long')) (All-drop (λ now. value now l.keep ≡ true) n g met.kept);
        admitted = All-drop (IsAdmitted l) n g met.admitted;
        held = λ i lt. at i ∙ before (n + i) (omega (arith, lt, last));
        broken = at k ∙ ap (λ s. value (instant_at g s) (obligation l p)) last ∙ broken;
      }))

  -- all runs up to a length
  holds_to : (bound : ℕ) (g : Table) (t : ℕ) → t < bound → IsMet g → length g ≡ t + 1 → value (instant_at g t) (obligation l p) ≡ true
  holds_to zero g t lt met long = absurd (omega (arith, lt))
  holds_to (suc bound) g t lt met long = elim (below_or_not t k) [
    | inl early_on ↦ early g t met long early_on
    | inr late_on ↦ late g t met long late_on (λ s before.
        ap (λ now. value now (obligation l p)) (sym (instant-front l.signals (s + 1) g s (omega arith)))
        ∙ holds_to bound (take (s + 1) g) s (omega (arith, lt, before)) (met-front (s + 1) g met) (length-take-le (s + 1) g (omega (arith, before, long))))
  ]

  pub holds : Holds l p
  holds g t run long admitted kept = holds_to (t + 1) g t (omega arith) (record { run = run; admitted = admitted; kept = kept }) long
