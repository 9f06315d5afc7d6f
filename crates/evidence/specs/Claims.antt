-- Words for the contracts of private parts: claims that are decided one after the other.
use Rattle.std.specs.Prelude.{◌≡◌, ◌↔◌, ℕ, ◌+◌, ◌/◌, ◌%◌, ◌==◌, ◌<◌, ◌⊎◌, Bool, true, false, IsTrue, List, [], ◌∷◌, ◌++◌, length, map, All, slice_get, Result, Ok, Err, IsSomeAnd}
use Rattle.lll_core.specs.declared.lll.Lll.{Lll}
use Rattle.lll_core.specs.Tables.{Table, input_values, AreInputs, IsRun}
use Rattle.miter.specs.declared.parts.MiterLll.{MiterLll}
use Rattle.rup_checker.specs.declared.fault.StepFault.{StepFault}
use Rattle.rup_checker.specs.declared.fault.StepFault.TheVariants as fault
use Rattle.rup_checker.specs.declared.log.Log.{Log}
use Rattle.rup_checker.specs.declared.log.Step.{Step}
use Rattle.rup_checker.specs.Formulas.{Cnf}
use Rattle.rup_checker.specs.Steps.{IsRefused}
use Rattle.rup_checker.specs.Stores.{Known}
use Rattle.rup_checker.specs.Logs.{known, AreAccepted, IsEnded, Accepts, IsFirstRefused}
use Rattle.unroll_cnf.specs.Counterexamples.{IsAdmitted}
use Rattle.kinduction.specs.declared.equal.Equal.{Equal}
use Rattle.kinduction.specs.Parts.{part_formula}
use Rattle.evidence.specs.declared.evidence.Evidence.{Evidence}
use Rattle.evidence.specs.declared.claim.ClaimFault.{ClaimFault}
use Rattle.evidence.specs.declared.claim.ClaimFault.TheVariants as claim
use Rattle.evidence.specs.declared.fault.Cause.{Cause}
use Rattle.evidence.specs.declared.fault.Cause.TheVariants as cause
use Rattle.evidence.specs.declared.refutation.Refutation.{Refutation}
use Rattle.evidence.specs.declared.trace.Trace.{Trace}
use Rattle.evidence.specs.Accepted.{IsSmallFormula, part_instants, EqualHolds, IsAcceptedEntry}
use Rattle.evidence.specs.Refusals.{IsStepCause}

-- ---- the order of causes

-- a cause in a line comes before another: in an earlier line, or in the same as `Count` before `Idle`
abbrev pub ComesBefore : ℕ → Cause → ℕ → Cause → Type 0
ComesBefore line why other reason =
    (line < other) ⊎ ((line ≡ other) × ((reason ≡ why) ⊎ ((why ≡ cause.Count) × (reason ≡ cause.Idle))))

-- of some causes one comes first
pub record IsFirstOf (Fails : ℕ → Cause → Type 0) (line : ℕ) (why : Cause) : Type 0 where
  pub fails : Fails line why
  pub first : (other : ℕ) (reason : Cause) → Fails other reason → ComesBefore line why other reason

-- the claims hold, or the first cause why they don't is named
abbrev pub Judges : Type 0 → (ℕ → Cause → Type 0) → Result Unit ClaimFault → Type 0
Judges Holds Fails (Ok done) = Holds
Judges Holds Fails (Err (claim.Refused line why)) = IsFirstOf Fails line why
Judges Holds Fails (Err claim.Memory) = Unit {0}

-- ---- logs, step by step

-- a step is refused, in its line, or there is no memory for it
abbrev pub IsStopped : StepFault → ℕ → ClaimFault → Type 0
IsStopped stop at (claim.Refused line why) = (line ≡ at) × IsStepCause stop why
IsStopped stop at claim.Memory = stop ≡ fault.Memory

-- the steps of a formula are accepted, and known to a checker
pub record HasTaken (f : Cnf) (steps : List Step) (checker : Known) : Type 0 where
  pub variables : checker.variables ≡ f.variables
  pub clauses : checker.clauses ≡ known f steps
  pub accepted : AreAccepted f steps

-- and it is known whether the last of them is the empty clause
pub record HasRefuted (f : Cnf) (steps : List Step) (refutation : Refutation) : Type 0 where
  pub taken : HasTaken f steps refutation.checker
  pub ended : IsTrue refutation.is_ended ↔ IsEnded steps

-- the next step is taken, or it is refused; there may be no memory for it
abbrev pub TakesStep : {S : Type 0} → (List Step → S → Type 0) → Cnf → List Step → Step → S → Result Unit StepFault → Type 0
TakesStep Has f steps step now (Ok done) = Has (steps ++ step ∷ []) now
TakesStep Has f steps step now (Err stop) =
    IsRefused f.variables (known f steps) step.clause step.hints stop ⊎ (stop ≡ fault.Memory)

-- the first step that is refused, in its line after that of the log
pub record IsFirstStop (f : Cnf) (at : ℕ) (steps : List Step) (line : ℕ) (why : Cause) : Type 0 where
  pub n : ℕ
  pub place : line ≡ at + n + 1
  pub stop : StepFault
  pub named : IsStepCause stop why
  pub refused : IsFirstRefused f steps n stop

-- ---- claims

-- one cause in one line
abbrev pub IsAlone : Type 0 → ℕ → Cause → Result Unit ClaimFault → Type 0
IsAlone Holds at named (Ok done) = Holds
IsAlone Holds at named (Err (claim.Refused line why)) = (line ≡ at) × (why ≡ named) × ¬ Holds
IsAlone Holds at named (Err claim.Memory) = Unit {0}

-- each log refutes the formula with its number
abbrev pub RefuteAll : (ℕ → Cnf) → List Log → Type 0
RefuteAll formula logs =
    (n : ℕ) → n < length logs → IsSomeAnd (slice_get logs n) (λ log. Accepts (formula n) log.steps)

-- the formula of the parts with this number: of each part its base formula and its step formula
abbrev pub nth_part_formula : MiterLll → ℕ → Cnf
nth_part_formula m n = part_formula m (n / 2) (n % 2 == 1)

-- what is said of the parts holds, over formulas that aren't too large
pub record IsAcceptedEqual (m : MiterLll) (budget : ℕ) (shown : Equal) : Type 0 where
  pub small : IsSmallFormula (part_instants shown) (length m.lll.signals)
  pub holds : EqualHolds m budget shown

-- each entry is accepted
abbrev pub AreAcceptedEntries : Evidence → Type 0
AreAcceptedEntries e = (p : ℕ) → p < length e.entries →
    IsSomeAnd (slice_get e.entries p) (IsAcceptedEntry e.a p e.depth e.conflicts)

-- ---- traces, row by row

-- a trace has room for the values of a model
pub record IsSized (l : Lll) (trace : Trace) : Type 0 where
  pub before : length trace.before.items ≡ length l.signals
  pub next : length trace.next.items ≡ length l.signals

-- the last instant of a run is kept, if there is one
abbrev pub EndsIn : Table → Trace → Type 0
EndsIn run trace =
    ((run ≡ []) × (trace.is_first ≡ true))
    ⊎ ((earlier : Table) × (run ≡ earlier ++ trace.before.items ∷ []) × (trace.is_first ≡ false))

-- its rows so far are the inputs of a run, whose last instant is kept, and it is known whether the run is admitted
pub record HasRun (l : Lll) (rows : List (List Bool)) (trace : Trace) : Type 0 where
  pub run : Table
  pub is_run : IsRun l.signals run
  pub inputs : map (input_values l.signals) run ≡ rows
  pub counted : AreInputs l.signals rows
  pub last : EndsIn run trace
  pub admitted : IsTrue trace.is_admitted ↔ All (IsAdmitted l) run
