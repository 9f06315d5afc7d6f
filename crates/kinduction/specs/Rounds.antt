-- What is found for an obligation: which base and step formulas are refuted, and which are satisfiable.
use Rattle.std.specs.Prelude.{◌≡◌, ℕ, ◌+◌, ◌-◌, ◌<◌, ◌≤◌, Bool, List, length, map, All, IsSomeAnd, slice_get}
use Rattle.lll_core.specs.declared.lll.Lll.{Lll}
use Rattle.lll_core.specs.Tables.{Table, input_values}
use Rattle.rup_checker.specs.declared.log.Log.{Log}
use Rattle.rup_checker.specs.Logs.{Accepts}
use Rattle.cdcl_solver.specs.Answers.{IsModel, IsRefutation, IsSpent}
use Rattle.unroll_cnf.specs.Unrollings.{base_formula, step_formula}
use Rattle.unroll_cnf.specs.Counterexamples.{IsCounterexample, IsSatisfiable}
use Rattle.kinduction.specs.declared.found.Found.{Found}
use Rattle.kinduction.specs.declared.found.Found.TheVariants as found
use Rattle.kinduction.specs.declared.found.Spot.{Spot}
use Rattle.kinduction.specs.declared.found.Spot.TheVariants as spot

-- ---- logs and bits that show something by themselves

-- each log refutes the base formula of the instant with its number
abbrev pub RefuteBases : Lll → ℕ → List Log → Type 0
RefuteBases l p logs =
    (j : ℕ) → j < length logs → IsSomeAnd (slice_get logs j) (λ log. Accepts (base_formula l p j) log.steps)

-- the logs refute the base formulas of the instants 0 to k - 1, and the step formula of k
pub record IsProof (l : Lll) (p k : ℕ) (bases : List Log) (step : Log) : Type 0 where
  pub count : length bases ≡ k
  pub bases_refuted : RefuteBases l p bases
  pub step_refuted : Accepts (step_formula l p k) step.steps

-- the rows are the inputs of a counterexample with as many instants, and the logs refute the base formulas of the
-- instants before the last
pub record IsBreak (l : Lll) (p : ℕ) (bits : List (List Bool)) (bases : List Log) : Type 0 where
  pub count : length bases + 1 ≡ length bits
  pub bases_refuted : RefuteBases l p bases
  pub broken : (g : Table) × (map (input_values l.signals) g ≡ bits) × IsCounterexample l p (length bases) g

-- ---- what a search in rounds answers

-- the logs refute the base formulas of the instants 0 to n - 1, each within the budget, and the step formulas of 1 to
-- k - 1 are satisfiable
pub record IsReached (l : Lll) (p budget n k : ℕ) (bases : List Log) : Type 0 where
  pub count : length bases ≡ n
  pub bases_refuted : RefuteBases l p bases
  pub short : All (λ log. length log.steps ≤ budget + 1) bases
  pub steps_satisfiable : (i : ℕ) → 1 ≤ i → i < k → IsSatisfiable (step_formula l p i).clauses

-- the step formula of k is refuted, and no earlier one
pub record IsProved (l : Lll) (p depth budget k : ℕ) (bases : List Log) (step : Log) : Type 0 where
  pub some : 1 ≤ k
  pub within : k ≤ depth
  pub reached : IsReached l p budget k k bases
  pub refuted : IsRefutation (step_formula l p k) budget step.steps

-- the rows are the inputs of a counterexample, and no shorter one is there; no step formula below is refuted
pub record IsFalsified (l : Lll) (p depth budget : ℕ) (bits : List (List Bool)) (bases : List Log) : Type 0 where
  pub within : length bits ≤ depth
  pub reached : IsReached l p budget (length bits - 1) (length bits) bases
  pub breaks : IsBreak l p bits bases

-- the step formula of the last round is satisfied
pub record IsAtDepth (l : Lll) (p depth budget : ℕ) (model : List Bool) (bases : List Log) : Type 0 where
  pub reached : IsReached l p budget depth depth bases
  pub satisfied : IsModel (step_formula l p depth) model

-- the budget is spent on the base formula of the instant j
pub record IsSpentAtBase (l : Lll) (p depth budget j : ℕ) (log : Log) (bases : List Log) : Type 0 where
  pub within : j < depth
  pub reached : IsReached l p budget j (j + 1) bases
  pub spent : IsSpent (base_formula l p j) budget log.steps

-- the budget is spent on the step formula of k
pub record IsSpentAtStep (l : Lll) (p depth budget k : ℕ) (log : Log) (bases : List Log) : Type 0 where
  pub some : 1 ≤ k
  pub within : k ≤ depth
  pub reached : IsReached l p budget k k bases
  pub spent : IsSpent (step_formula l p k) budget log.steps

-- the budget is spent at this place
abbrev pub IsSpentAt : Lll → ℕ → ℕ → ℕ → Spot → Log → List Log → Type 0
IsSpentAt l p depth budget (spot.Base j) log bases = IsSpentAtBase l p depth budget j log bases
IsSpentAt l p depth budget (spot.Step k) log bases = IsSpentAtStep l p depth budget k log bases

-- what each answer promises of the obligation p
abbrev pub Decides : Lll → ℕ → ℕ → ℕ → Found → Type 0
Decides l p depth budget (found.Proved k bases step) = IsProved l p depth budget k bases step
Decides l p depth budget (found.Falsified bits bases) = IsFalsified l p depth budget bits bases
Decides l p depth budget (found.Depth model bases) = IsAtDepth l p depth budget model bases
Decides l p depth budget (found.Conflicts place log bases) = IsSpentAt l p depth budget place log bases

-- one answer for each obligation, in their order
pub record DecidesAll (l : Lll) (depth budget : ℕ) (answers : List Found) : Type 0 where
  pub count : length answers ≡ length l.obligations
  pub each : (p : ℕ) → p < length answers → IsSomeAnd (slice_get answers p) (Decides l p depth budget)
