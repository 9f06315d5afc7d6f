-- Words for the contracts of private parts: a log that is judged as its steps come, and isn't kept.
use Rattle.std.specs.Prelude.{◌≡◌, ◌≢◌, ℕ, ◌⊎◌, List, ◌∷◌, [], ◌++◌, length, Result, Ok, Err}
use Rattle.rup_checker.specs.declared.fault.StepFault.{StepFault}
use Rattle.rup_checker.specs.declared.fault.StepFault.TheVariants as fault
use Rattle.rup_checker.specs.declared.log.Step.{Step}
use Rattle.rup_checker.specs.Formulas.{Cnf}
use Rattle.rup_checker.specs.Steps.{IsRefused}
use Rattle.rup_checker.specs.Logs.{known, AreAccepted}
use Rattle.evidence.specs.declared.claim.ClaimFault.{ClaimFault}
use Rattle.evidence.specs.declared.claimed_logs.Claim.{Claim}
use Rattle.evidence.specs.declared.claimed_logs.Claim.TheVariants as claim
use Rattle.evidence.specs.declared.fault.Cause.{Cause}
use Rattle.evidence.specs.declared.fault.Cause.TheVariants as cause
use Rattle.evidence.specs.declared.open_log.OpenLog.{OpenLog}
use Rattle.evidence.specs.declared.open_log.OpenLog.TheVariants as open_log
use Rattle.evidence.specs.Refusals.{line_after}
use Rattle.evidence.specs.Claims.{Judges, HasTaken, HasRefuted, IsFirstStop}
use Rattle.evidence.specs.LogClaims.{LogHolds, LogFails}

-- the formula that a log speaks of
abbrev pub claimed : Claim → Cnf
claimed (claim.Refutes f) = f
claimed (claim.Spends f) = f

-- a log that is to show a budget spent has as many steps as that
abbrev pub IsWhole : ℕ → Claim → ℕ → Type 0
IsWhole budget (claim.Refutes f) count = Unit {0}
IsWhole budget (claim.Spends f) count = count ≡ budget

-- it has another number of steps, which is told in its own line
abbrev pub IsMiscounted : ℕ → Claim → ℕ → ℕ → ℕ → Cause → Type 0
IsMiscounted budget (claim.Refutes f) at count line why = ⊥
IsMiscounted budget (claim.Spends f) at count line why = (line ≡ at) × (why ≡ cause.Count) × (count ≢ budget)

-- of a log of so many steps in this line these came: all are accepted, or the first cause why the log fails is kept
abbrev pub Tracks : ℕ → Claim → ℕ → ℕ → List Step → OpenLog → Type 0
Tracks budget q at count steps open_log.Closed = ⊥
Tracks budget (claim.Refutes f) at count steps (open_log.Refuting refutation) = HasRefuted f steps refutation
Tracks budget (claim.Spends f) at count steps (open_log.Refuting refutation) = ⊥
Tracks budget (claim.Refutes f) at count steps (open_log.Spending from checker) = ⊥
Tracks budget (claim.Spends f) at count steps (open_log.Spending from checker) = (count ≡ budget) × (from ≡ length f.clauses) × HasTaken f steps checker
Tracks budget q at count steps (open_log.Refused line why) =
    IsMiscounted budget q at count line why ⊎ (IsWhole budget q count × IsFirstStop (claimed q) at steps line why)

-- so it is of some log in this line
pub record IsTracked (at : ℕ) (open_log : OpenLog) : Type 0 where
  pub budget : ℕ
  pub q : Claim
  pub count : ℕ
  pub steps : List Step
  pub tracks : Tracks budget q at count steps open_log

-- the steps so far are accepted, and the next one is refused; there may be no memory for it
pub record IsHalted (budget : ℕ) (q : Claim) (count : ℕ) (steps : List Step) (step : Step) (stop : StepFault) : Type 0 where
  pub whole : IsWhole budget q count
  pub accepted : AreAccepted (claimed q) steps
  pub refused : IsRefused (claimed q).variables (known (claimed q) steps) step.clause step.hints stop ⊎ (stop ≡ fault.Memory)

-- the next step came, or it is the first that is refused
abbrev pub TakesNext : ℕ → Claim → ℕ → ℕ → List Step → Step → OpenLog → Result Unit StepFault → Type 0
TakesNext budget q at count steps step now (Ok done) = Tracks budget q at count (steps ++ step ∷ []) now
TakesNext budget q at count steps step now (Err stop) = IsHalted budget q count steps step stop

-- where all steps came it is told whether the log shows what it claims
abbrev pub Concludes : OpenLog → ℕ → Result Unit ClaimFault → Type 0
Concludes o at result = (budget : ℕ) (q : Claim) (steps : List Step) (front : List ℕ) → Tracks budget q at (length steps) steps o → at ≡ line_after front →
    Judges (LogHolds budget q (record { steps = steps })) (LogFails budget q front (record { steps = steps })) result
