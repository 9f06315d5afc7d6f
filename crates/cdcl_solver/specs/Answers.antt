-- What the answers of a search mean.
use Rattle.std.specs.Prelude.{◌≡◌, ◌+◌, ◌≤◌, ℕ, Bool, List, length}
use Rattle.rup_checker.specs.Formulas.{Cnf, Satisfies, listed}
use Rattle.rup_checker.specs.Logs.{Accepts, IsBusy, Grows}
use Rattle.rup_checker.specs.declared.log.Step.{Step}
use Rattle.cdcl_solver.specs.declared.answer.Answer.{Answer}
use Rattle.cdcl_solver.specs.declared.answer.Answer.TheVariants as answer

-- a value for each variable, which satisfy the formula
pub record IsModel (f : Cnf) (values : List Bool) : Type 0 where
  pub size : length values ≡ f.variables
  pub satisfies : Satisfies (listed values) f.clauses

-- a log that refutes the formula, with no more steps before the empty clause than the budget allows
pub record IsRefutation (f : Cnf) (budget : ℕ) (steps : List Step) : Type 0 where
  pub accepted : Accepts f steps
  pub short : length steps ≤ budget + 1

-- a busy log of as many steps as the budget allows, each of which makes unit propagation stronger
pub record IsSpent (f : Cnf) (budget : ℕ) (steps : List Step) : Type 0 where
  pub busy : IsBusy f steps
  pub grows : Grows f steps
  pub whole : length steps ≡ budget

-- what each answer promises
abbrev pub Answers : Cnf → ℕ → Answer → Type 0
Answers f budget (answer.Sat values) = IsModel f values.items
Answers f budget (answer.Unsat log) = IsRefutation f budget log.steps
Answers f budget (answer.Spent log) = IsSpent f budget log.steps

-- the budget is not spent
abbrev pub IsDecided : Answer → Type 0
IsDecided (answer.Sat values) = Unit {0}
IsDecided (answer.Unsat log) = Unit {0}
IsDecided (answer.Spent log) = ⊥
