-- Logs of steps: accepted ones, busy ones, and 1-empowering steps.
use Rattle.std.specs.Prelude.{◌≡◌, ◌≢◌, ◌<◌, ◌≤◌, ℕ, ℤ, neg_ℤ, List, [], ◌∷◌, ◌++◌, length, map, take, All, Contains, IsSomeAnd, slice_get, ⊤}
use Rattle.rup_checker.specs.declared.fault.LogFault.{LogFault}
use Rattle.rup_checker.specs.declared.fault.LogFault.TheVariants as fault
use Rattle.rup_checker.specs.declared.fault.StepFault.{StepFault}
use Rattle.rup_checker.specs.declared.log.Step.{Step}
use Rattle.rup_checker.specs.Formulas.{Cnf}
use Rattle.rup_checker.specs.Steps.{IsAllFalse, IsUnit, Refutes, IsAccepted, IsRefused}

-- the clauses that the steps add
abbrev pub added : List Step → List (List ℤ)
added steps = map (λ s. s.clause) steps

-- the clauses that a formula has with those of the steps after them
abbrev pub known : Cnf → List Step → List (List ℤ)
known f steps = f.clauses ++ added steps

-- each step has the property over the clauses that stand before it: those of the formula and of the earlier steps
abbrev pub Each : (List (List ℤ) → Step → Type 0) → Cnf → List Step → Type 0
Each P f steps = (n : ℕ) → n < length steps → IsSomeAnd (slice_get steps n) (P (known f (take n steps)))

-- every step is accepted
abbrev pub AreAccepted : Cnf → List Step → Type 0
AreAccepted f steps = Each (λ clauses s. IsAccepted f.variables clauses s.clause s.hints) f steps

-- the last step is the empty clause
pub record IsEnded (steps : List Step) : Type 0 where
  pub before : List Step
  pub last : Step
  pub split : steps ≡ before ++ last ∷ []
  pub empty : last.clause ≡ []

-- a log that refutes the formula
pub record Accepts (f : Cnf) (steps : List Step) : Type 0 where
  pub accepted : AreAccepted f steps
  pub ended : IsEnded steps

-- the first step that is refused, and why
pub record IsFirstRefused (f : Cnf) (steps : List Step) (place : ℕ) (why : StepFault) : Type 0 where
  pub within : place < length steps
  pub before : AreAccepted f (take place steps)
  pub refused : IsSomeAnd (slice_get steps place) (λ s. IsRefused f.variables (known f (take place steps)) s.clause s.hints why)

-- why a log does not refute the formula
abbrev pub IsLogFault : Cnf → List Step → LogFault → Type 0
IsLogFault f steps (fault.At place why) = IsFirstRefused f steps place why
IsLogFault f steps fault.Unended = AreAccepted f steps × ¬ (IsEnded steps)
IsLogFault f steps fault.Memory = ⊤

-- a clause that isn't empty, has no literal together with its negation, and contains no clause that stands before it
pub record IsNew (clauses : List (List ℤ)) (clause : List ℤ) : Type 0 where
  pub some : 0 < length clause
  pub consistent : (l : ℤ) → Contains clause l → ¬ (Contains clause (neg_ℤ l))
  pub minimal : All (λ c. ¬ (All (Contains clause) c)) clauses

-- no hints make the empty clause a step: unit propagation reaches no false clause
abbrev pub IsOpen : List (List ℤ) → Type 0
IsOpen clauses = (hints : List ℕ) → ¬ (Refutes clauses [] hints)

-- each clause from this number on is new among those before it
abbrev pub AreNewFrom : List (List ℤ) → ℕ → Type 0
AreNewFrom clauses from = (n : ℕ) → from ≤ n → n < length clauses → IsSomeAnd (slice_get clauses n) (IsNew (take n clauses))

-- and with all clauses unit propagation reaches no false clause
pub record IsBusyFrom (clauses : List (List ℤ)) (from : ℕ) : Type 0 where
  pub new : AreNewFrom clauses from
  pub open_end : IsOpen clauses

-- every step is accepted and is new, and with all steps unit propagation still reaches no false clause
pub record IsBusy (f : Cnf) (steps : List Step) : Type 0 where
  pub accepted : AreAccepted f steps
  pub new : Each (λ clauses s. IsNew clauses s.clause) f steps
  pub open_end : IsOpen (known f steps)

-- unit propagation has nothing to do at a clause: it is not false, and where just one literal of it is not false that
-- one is true
abbrev pub IsQuiet : (ℤ → Type 0) → List ℤ → Type 0
IsQuiet Taken clause = (¬ (IsAllFalse Taken clause)) × ((l : ℤ) → IsUnit Taken clause l → Taken (neg_ℤ l))

-- unit propagation has ended
abbrev pub IsComplete : List (List ℤ) → (ℤ → Type 0) → Type 0
IsComplete clauses Taken = All (IsQuiet Taken) clauses

-- the clause is 1-empowering, it makes unit propagation stronger: with all its other literals false, propagation ended before the
-- clause was there and left one literal of it without a value, which the clause now makes true
pub record IsOneEmpowering (clauses : List (List ℤ)) (clause : List ℤ) : Type 0 where
  pub literal : ℤ
  pub taken : List ℤ
  pub stands : Contains clause literal
  pub consistent : (l : ℤ) → Contains taken l → ¬ (Contains taken (neg_ℤ l))
  pub others : (l : ℤ) → Contains clause l → l ≢ literal → Contains taken l
  pub free : (¬ (Contains taken literal)) × (¬ (Contains taken (neg_ℤ literal)))
  pub complete : IsComplete clauses (Contains taken)

-- each step is 1-empowering
abbrev pub Grows : Cnf → List Step → Type 0
Grows f steps = Each (λ clauses s. IsOneEmpowering clauses s.clause) f steps
