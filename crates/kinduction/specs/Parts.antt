-- What is found for the parts of a miter.
use Rattle.std.specs.Prelude.{◌≡◌, ℕ, ◌+◌, ◌*◌, ◌<◌, ◌≤◌, Bool, true, List, length, All, IsSomeAnd, slice_get, if◌then◌else◌}
use Rattle.miter.specs.declared.parts.MiterLll.{MiterLll}
use Rattle.rup_checker.specs.declared.log.Log.{Log}
use Rattle.rup_checker.specs.declared.log.Step.{Step}
use Rattle.rup_checker.specs.Formulas.{Cnf, IsUnsatisfiable}
use Rattle.rup_checker.specs.Logs.{Accepts}
use Rattle.cdcl_solver.specs.Answers.{IsRefutation, IsSpent}
use Rattle.unroll_cnf.specs.Unrollings.{part_base_formula, part_step_formula}
use Rattle.kinduction.specs.declared.equal.Equal.{Equal}
use Rattle.kinduction.specs.declared.equal.Equal.TheVariants as equal

-- the base formula of a part, or its step formula
abbrev pub part_formula : MiterLll → ℕ → Bool → Cnf
part_formula m i stepping = if stepping then part_step_formula m i else part_base_formula m i

-- no formula of a part is satisfiable: the two models are never found different
abbrev pub AreNeverDifferent : MiterLll → Type 0
AreNeverDifferent m = (i : ℕ) → i < length m.parts → (stepping : Bool) → IsUnsatisfiable (part_formula m i stepping)

-- two logs for each part, one after the other: the first refutes its base formula, the second its step formula
pub record ShowParts (m : MiterLll) (logs : List Log) : Type 0 where
  pub count : length logs ≡ 2 * length m.parts
  pub bases : (i : ℕ) → i < length m.parts → IsSomeAnd (slice_get logs (2 * i)) (λ log. Accepts (part_base_formula m i) log.steps)
  pub steps : (i : ℕ) → i < length m.parts → IsSomeAnd (slice_get logs (2 * i + 1)) (λ log. Accepts (part_step_formula m i) log.steps)

-- the logs show all parts, each within the budget
pub record IsShown (m : MiterLll) (budget : ℕ) (logs : List Log) : Type 0 where
  pub parts : ShowParts m logs
  pub short : All (λ log. length log.steps ≤ budget + 1) logs

-- some log refutes the formula within the budget
abbrev pub IsRefuted : Cnf → ℕ → Type 0
IsRefuted f budget = (steps : List Step) × IsRefutation f budget steps

-- the budget is spent on a formula of the part i, and each formula before it is refuted
pub record IsSpentOnPart (m : MiterLll) (budget i : ℕ) (stepping : Bool) (log : Log) : Type 0 where
  pub within : i < length m.parts
  pub before : (n : ℕ) → n < i → (earlier : Bool) → IsRefuted (part_formula m n earlier) budget
  pub base_before : stepping ≡ true → IsRefuted (part_base_formula m i) budget
  pub spent : IsSpent (part_formula m i stepping) budget log.steps

-- what each answer promises
abbrev pub Compares : MiterLll → ℕ → Equal → Type 0
Compares m budget (equal.Shown logs) = IsShown m budget logs
Compares m budget (equal.Conflicts i stepping log) = IsSpentOnPart m budget i stepping log
