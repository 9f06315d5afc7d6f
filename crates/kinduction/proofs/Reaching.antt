-- How far a search in rounds has come.
use Rattle.std.proofs.Common.{◌≡◌, ℕ, ◌+◌, ◌-◌, ◌<◌, ◌≤◌, Bool, List, [], ◌∷◌, ◌++◌, length, map, slice_get, refl, sym, ap, subst, ◌∙◌, arith, inl, inr, length-append}
use Rattle.std.specs.Prelude.{IsSomeAnd}
use Rattle.std.proofs.lemmas.List.{length-map}
use Rattle.std.proofs.lemmas.List.Elements.{All-nil, All-push}
use Rattle.lll_core.specs.declared.lll.Lll.{Lll}
use Rattle.lll_core.specs.Tables.{input_values}
use Rattle.rup_checker.specs.declared.log.Log.{Log}
use Rattle.rup_checker.specs.Formulas.{listed}
use Rattle.rup_checker.specs.Logs.{Accepts}
use Rattle.rup_checker.proofs.LogLemmas.{get-left, get-seam}
use Rattle.cdcl_solver.specs.declared.answer.Answer.{Answer}
use Rattle.cdcl_solver.specs.declared.answer.Answer.TheVariants as answer
use Rattle.cdcl_solver.specs.Answers.{Answers, IsModel, IsRefutation}
use Rattle.unroll_cnf.specs.Unrollings.{base_formula, step_formula}
use Rattle.unroll_cnf.specs.Counterexamples.{shown, IsCounterexample, IsSatisfiable}
use Rattle.unroll_cnf.proofs.Exact.{base_exact}
use Rattle.unroll_cnf.proofs.Shown.{length-shown}
use Rattle.kinduction.specs.Rounds.{RefuteBases, IsReached, IsFalsified}
use Rattle.kinduction.proofs.Induction.{below_or_not}

module _ (l : Lll) (p budget : ℕ) where
  pub started : IsReached l p budget 0 1 []
  started = record {
    count = refl;
    bases_refuted = λ j lt. absurd (omega (arith, lt));
    short = All-nil (λ log. length log.steps ≤ budget + 1);
    steps_satisfiable = λ i some lt. absurd (omega (arith, some, lt));
  }

  -- one log more
  refutes-push : (n : ℕ) (bases : List Log) (log : Log) → length bases ≡ n → RefuteBases l p bases → Accepts (base_formula l p n) log.steps → RefuteBases l p (bases ++ log ∷ [])
  refutes-push n bases log count refuted accepts j lt = elim (below_or_not j (length bases)) [
    | inl low ↦ subst (λ o. IsSomeAnd o (λ log. Accepts (base_formula l p j) log.steps)) (sym (get-left bases (log ∷ []) j low)) (refuted j low)
    | inr high ↦
        let last : length bases ≡ j = omega (arith, high, lt, length-append bases (log ∷ [])) in
        let here : IsSomeAnd (slice_get (bases ++ log ∷ []) (length bases)) (λ log. Accepts (base_formula l p n) log.steps) =
        subst (λ o. IsSomeAnd o (λ (log : Log). Accepts (base_formula l p n) log.steps)) (sym (get-seam bases log [])) accepts in
        let number : n ≡ j = omega (arith, count, last) in
        subst (λ i. IsSomeAnd (slice_get (bases ++ log ∷ []) i) (λ log. Accepts (base_formula l p j) log.steps)) last
        (subst (λ i. IsSomeAnd (slice_get (bases ++ log ∷ []) (length bases)) (λ log. Accepts (base_formula l p i) log.steps)) number here)
  ]

  pub base_refuted : (n k : ℕ) (bases : List Log) (log : Log) → IsReached l p budget n k bases → IsRefutation (base_formula l p n) budget log.steps → IsReached l p budget (n + 1) k (bases ++ log ∷ [])
  base_refuted n k bases log reached refutation = record {
    count = omega (arith, reached.count, length-append bases (log ∷ []));
    bases_refuted = refutes-push n bases log reached.count reached.bases_refuted refutation.accepted;
    short = All-push (λ log. length log.steps ≤ budget + 1) bases log reached.short refutation.short;
    steps_satisfiable = reached.steps_satisfiable;
  }

  -- the list of logs after a base formula was refuted
  pub base_pushed : (n k : ℕ) (bases after : List Log) (log : Log) (found : Answer) → IsReached l p budget n k bases → Answers (base_formula l p n) budget found
      → found ≡ answer.Unsat log → after ≡ bases ++ log ∷ [] → IsReached l p budget (n + 1) k after
  base_pushed n k bases after log found reached promised is pushed =
      subst (λ (logs : List Log). IsReached l p budget (n + 1) k logs) (sym pushed)
      (base_refuted n k bases log reached (subst (λ (a : Answer). Answers (base_formula l p n) budget a) is promised))

  pub step_satisfied : (n k : ℕ) (bases : List Log) (values : List Bool) → IsReached l p budget n k bases → IsModel (step_formula l p k) values → IsReached l p budget n (k + 1) bases
  step_satisfied n k bases values reached model = record {
    count = reached.count;
    bases_refuted = reached.bases_refuted;
    short = reached.short;
    steps_satisfiable = λ i some lt. elim (below_or_not i k) [
      | inl low ↦ reached.steps_satisfiable i some low
      | inr high ↦
          let same : k ≡ i = omega (arith, high, lt) in
          subst (λ n. IsSatisfiable (step_formula l p n).clauses) same (listed values, model.satisfies)
    ];
  }

  pub is_falsified : (depth instant : ℕ) (bases : List Log) (values : List Bool) (bits : List (List Bool)) → p < length l.obligations → instant < depth
      → IsReached l p budget instant (instant + 1) bases → IsModel (base_formula l p instant) values
      → bits ≡ map (input_values l.signals) (shown l.signals (instant + 1) (listed values)) → IsFalsified l p depth budget bits bases
  is_falsified depth instant bases values bits within lt reached model rows =
      let g = shown l.signals (instant + 1) (listed values) in
      let long : length bits ≡ instant + 1 = ap length rows ∙ length-map g (input_values l.signals) ∙ length-shown l.signals (instant + 1) (listed values) in
      let before : instant ≡ length bits - 1 = omega (arith, long) in
      record {
        within = omega (arith, long, lt);
        reached = subst (λ k. IsReached l p budget (length bits - 1) k bases) (sym long) (subst (λ n. IsReached l p budget n (instant + 1) bases) before reached);
        breaks = record {
          count = omega (arith, reached.count, long);
          bases_refuted = reached.bases_refuted;
          broken = (g, sym rows, subst (λ j. IsCounterexample l p j g) (sym reached.count) (((base_exact l p within instant).shows (listed values)).0 model.satisfies));
        };
      }
