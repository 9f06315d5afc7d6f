-- What a refuted formula excludes.
use Rattle.std.proofs.Common.{ℕ, ◌+◌, ◌<◌, List, length}
use Rattle.std.specs.Prelude.{slice_get, All}
use Rattle.lll_core.specs.declared.lll.Lll.{Lll}
use Rattle.lll_core.specs.declared.signal.Signal.{Signal}
use Rattle.lll_core.specs.Tables.{Table}
use Rattle.miter.specs.declared.parts.MiterLll.{MiterLll}
use Rattle.rup_checker.specs.declared.log.Log.{Log}
use Rattle.rup_checker.specs.declared.log.Step.{Step}
use Rattle.rup_checker.specs.Formulas.{Cnf, IsLiteral}
use Rattle.rup_checker.specs.Logs.{Accepts}
use Rattle.rup_checker.proofs.Soundness.{log_sound}
use Rattle.unroll_cnf.specs.Unrollings.{base_formula, step_formula, part_base_formula, part_step_formula}
use Rattle.unroll_cnf.specs.Counterexamples.{IsCounterexample, IsInductionCounterexample, IsPartCounterexample, IsPartInductionCounterexample, Describes}
use Rattle.unroll_cnf.proofs.Exact.{base_exact, step_exact, part_base_exact, part_step_exact}
use Rattle.kinduction.specs.Rounds.{RefuteBases}
use Rattle.kinduction.proofs.Pieces.{there}
use Rattle.kinduction.proofs.Ranges.{base_in_range, step_in_range, part_base_in_range, part_step_in_range}

-- a formula that is refuted describes no table
none_described : (f : Cnf) (signals : List Signal) (n : ℕ) (Is : Table → Type 0) (steps : List Step) → All (All (IsLiteral f.variables)) f.clauses
    → Describes f.clauses signals n Is → Accepts f steps → (g : Table) → Is g → ⊥
none_described f signals n Is steps in_range describes accepts g is =
    let s = describes.satisfiable.1 (g, is) in log_sound f steps in_range accepts s.0 s.1

module _ (l : Lll) (p : ℕ) (within : p < length l.obligations) where
  pub no_break : (steps : List Step) (j : ℕ) → Accepts (base_formula l p j) steps → (g : Table) → IsCounterexample l p j g → ⊥
  no_break steps j accepts = none_described (base_formula l p j) l.signals (j + 1) (IsCounterexample l p j) steps (base_in_range l p within j) (base_exact l p within j) accepts

  pub no_induction_break : (steps : List Step) (k : ℕ) → Accepts (step_formula l p k) steps → (g : Table) → IsInductionCounterexample l p k g → ⊥
  no_induction_break steps k accepts = none_described (step_formula l p k) l.signals (k + 1) (IsInductionCounterexample l p k) steps (step_in_range l p within k) (step_exact l p within k) accepts

  -- no counterexample has as few instants as there are logs
  pub no_short_break : (bases : List Log) → RefuteBases l p bases → (j : ℕ) → j < length bases → (g : Table) → IsCounterexample l p j g → ⊥
  no_short_break bases refuted j lt = let log = there (slice_get bases j) (λ log. Accepts (base_formula l p j) log.steps) (refuted j lt) in
      no_break log.0.steps j log.1

module _ (m : MiterLll) (i : ℕ) (within : i < length m.parts) where
  pub no_part_break : (steps : List Step) → Accepts (part_base_formula m i) steps → (g : Table) → IsPartCounterexample m i g → ⊥
  no_part_break steps accepts = none_described (part_base_formula m i) m.lll.signals 1 (IsPartCounterexample m i) steps (part_base_in_range m i within) (part_base_exact m i within) accepts

  pub no_part_induction_break : (steps : List Step) → Accepts (part_step_formula m i) steps → (g : Table) → IsPartInductionCounterexample m i g → ⊥
  no_part_induction_break steps accepts = none_described (part_step_formula m i) m.lll.signals 2 (IsPartInductionCounterexample m i) steps (part_step_in_range m i within) (part_step_exact m i within) accepts
