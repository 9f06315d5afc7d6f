-- The logs of the parts so far, two for each.
use Rattle.std.proofs.Common.{◌≡◌, ℕ, ◌+◌, ◌*◌, ◌<◌, ◌≤◌, Bool, true, false, List, [], ◌∷◌, ◌++◌, length, Some, slice_get, refl, sym, subst, arith, inl, inr, length-append}
use Rattle.std.specs.Prelude.{All, IsSomeAnd, Option, None}
use Rattle.std.proofs.lemmas.List.Elements.{All-nil, All-push}
use Rattle.miter.specs.declared.parts.MiterLll.{MiterLll}
use Rattle.rup_checker.specs.declared.log.Log.{Log}
use Rattle.rup_checker.specs.Formulas.{Cnf}
use Rattle.rup_checker.specs.Logs.{Accepts}
use Rattle.rup_checker.proofs.LogLemmas.{get-left, get-seam}
use Rattle.cdcl_solver.specs.Answers.{IsRefutation, IsSpent}
use Rattle.unroll_cnf.specs.Unrollings.{part_base_formula, part_step_formula}
use Rattle.kinduction.specs.Parts.{part_formula, IsShown, IsRefuted, IsSpentOnPart}
use Rattle.kinduction.proofs.Induction.{below_or_not}
use Rattle.kinduction.proofs.Pieces.{there}

-- the log at a place refutes the formula
abbrev pub RefutesAt : List Log → ℕ → Cnf → ℕ → Type 0
RefutesAt logs n f budget = IsSomeAnd (slice_get logs n) (λ log. IsRefutation f budget log.steps)

-- the first so many parts have their logs
pub record IsShownTo (m : MiterLll) (budget n : ℕ) (logs : List Log) : Type 0 where
  pub count : length logs ≡ 2 * n
  pub bases : (i : ℕ) → i < n → RefutesAt logs (2 * i) (part_base_formula m i) budget
  pub steps : (i : ℕ) → i < n → RefutesAt logs (2 * i + 1) (part_step_formula m i) budget
  pub short : All (λ log. length log.steps ≤ budget + 1) logs

refutes-kept : (logs more : List Log) (n : ℕ) (f : Cnf) (budget : ℕ) → n < length logs → RefutesAt logs n f budget → RefutesAt (logs ++ more) n f budget
refutes-kept logs more n f budget lt here = subst (λ o. IsSomeAnd o (λ (log : Log). IsRefutation f budget log.steps)) (sym (get-left logs more n lt)) here

refutes-last : (logs : List Log) (log : Log) (n : ℕ) (f : Cnf) (budget : ℕ) → length logs ≡ n → IsRefutation f budget log.steps → RefutesAt (logs ++ log ∷ []) n f budget
refutes-last logs log n f budget count refutes = subst (λ k. RefutesAt (logs ++ log ∷ []) k f budget) count
    (subst (λ o. IsSomeAnd o (λ (log : Log). IsRefutation f budget log.steps)) (sym (get-seam logs log [])) refutes)

accepts-at : (o : Option Log) (f : Cnf) (budget : ℕ) → IsSomeAnd o (λ log. IsRefutation f budget log.steps) → IsSomeAnd o (λ log. Accepts f log.steps)
accepts-at (Some log) f budget refutes = refutes.accepted
accepts-at None f budget refutes = absurd refutes

module _ (m : MiterLll) (budget : ℕ) where
  pub none_shown : IsShownTo m budget 0 []
  none_shown = record {
    count = refl;
    bases = λ i lt. absurd (omega (arith, lt));
    steps = λ i lt. absurd (omega (arith, lt));
    short = All-nil (λ log. length log.steps ≤ budget + 1);
  }

  -- two logs more
  pub one_more_shown : (n : ℕ) (logs : List Log) (base step : Log) → IsShownTo m budget n logs → IsRefutation (part_base_formula m n) budget base.steps
      → IsRefutation (part_step_formula m n) budget step.steps → IsShownTo m budget (n + 1) ((logs ++ base ∷ []) ++ step ∷ [])
  one_more_shown n logs base step so_far refutes_base refutes_step = record {
    count = omega (arith, one, length-append (logs ++ base ∷ []) (step ∷ []));
    bases = λ i lt. elim (below_or_not i n) [
      | inl low ↦ refutes-kept (logs ++ base ∷ []) (step ∷ []) (2 * i) (part_base_formula m i) budget (omega (arith, one, low))
          (refutes-kept logs (base ∷ []) (2 * i) (part_base_formula m i) budget (omega (arith, so_far.count, low)) (so_far.bases i low))
      | inr high ↦
          let same : n ≡ i = omega (arith, high, lt) in
          subst (λ k. RefutesAt ((logs ++ base ∷ []) ++ step ∷ []) (2 * k) (part_base_formula m k) budget) same
          (refutes-kept (logs ++ base ∷ []) (step ∷ []) (2 * n) (part_base_formula m n) budget (omega (arith, one))
          (refutes-last logs base (2 * n) (part_base_formula m n) budget so_far.count refutes_base))
    ];
    steps = λ i lt. elim (below_or_not i n) [
      | inl low ↦ refutes-kept (logs ++ base ∷ []) (step ∷ []) (2 * i + 1) (part_step_formula m i) budget (omega (arith, one, low))
          (refutes-kept logs (base ∷ []) (2 * i + 1) (part_step_formula m i) budget (omega (arith, so_far.count, low)) (so_far.steps i low))
      | inr high ↦
          let same : n ≡ i = omega (arith, high, lt) in
          subst (λ k. RefutesAt ((logs ++ base ∷ []) ++ step ∷ []) (2 * k + 1) (part_step_formula m k) budget) same
          (refutes-last (logs ++ base ∷ []) step (2 * n + 1) (part_step_formula m n) budget one refutes_step)
    ];
    short = All-push (λ log. length log.steps ≤ budget + 1) (logs ++ base ∷ []) step
        (All-push (λ log. length log.steps ≤ budget + 1) logs base so_far.short refutes_base.short) refutes_step.short;
  }
    where
      one : length (logs ++ base ∷ []) ≡ 2 * n + 1
      one = omega (arith, so_far.count, length-append logs (base ∷ []))

  pub all_shown : (logs : List Log) → IsShownTo m budget (length m.parts) logs → IsShown m budget logs
  all_shown logs so_far = record {
    parts = record {
      count = so_far.count;
      bases = λ i lt. accepts-at (slice_get logs (2 * i)) (part_base_formula m i) budget (so_far.bases i lt);
      steps = λ i lt. accepts-at (slice_get logs (2 * i + 1)) (part_step_formula m i) budget (so_far.steps i lt);
    };
    short = so_far.short;
  }

  refuted_before : (n : ℕ) (logs : List Log) → IsShownTo m budget n logs → (i : ℕ) → i < n → (stepping : Bool) → IsRefuted (part_formula m i stepping) budget
  refuted_before n logs so_far i lt true = let log = there (slice_get logs (2 * i + 1)) (λ log. IsRefutation (part_step_formula m i) budget log.steps) (so_far.steps i lt) in (log.0.steps, log.1)
  refuted_before n logs so_far i lt false = let log = there (slice_get logs (2 * i)) (λ log. IsRefutation (part_base_formula m i) budget log.steps) (so_far.bases i lt) in (log.0.steps, log.1)

  pub spent_on_base : (n : ℕ) (logs : List Log) (log : Log) → n < length m.parts → IsShownTo m budget n logs → IsSpent (part_base_formula m n) budget log.steps → IsSpentOnPart m budget n false log
  spent_on_base n logs log within so_far spent = record {
    within = within;
    before = refuted_before n logs so_far;
    base_before = λ stepping. absurd (false_true stepping);
    spent = spent;
  }
    where
      false_true : false ≡ true → ⊥
      false_true e = cc

  pub spent_on_step : (n : ℕ) (logs : List Log) (base log : Log) → n < length m.parts → IsShownTo m budget n logs → IsRefutation (part_base_formula m n) budget base.steps
      → IsSpent (part_step_formula m n) budget log.steps → IsSpentOnPart m budget n true log
  spent_on_step n logs base log within so_far refutes spent = record {
    within = within;
    before = refuted_before n logs so_far;
    base_before = λ stepping. (base.steps, refutes);
    spent = spent;
  }
