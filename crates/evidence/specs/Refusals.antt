-- Why a value isn't accepted: where each cause stands, and which cause comes first. A front is the text before a line.
use Rattle.std.specs.Prelude.{◌≡◌, ◌≢◌, ℕ, ◌+◌, ◌*◌, ◌<◌, ◌⊎◌, Bool, List, ◌++◌, length, map, take, IsSomeAnd, slice_get, if◌then◌else◌}
use Rattle.lll_core.specs.declared.lll.Lll.{Lll}
use Rattle.lll_core.specs.Tables.{Table, input_values}
use Rattle.lll_text.specs.Lines.{line_feeds}
use Rattle.miter.specs.declared.parts.MiterLll.{MiterLll}
use Rattle.miter.specs.Pairs.{IsUnpaired}
use Rattle.miter.specs.Miters.{IsMiter}
use Rattle.rup_checker.specs.declared.fault.StepFault.{StepFault}
use Rattle.rup_checker.specs.declared.fault.StepFault.TheVariants as fault
use Rattle.rup_checker.specs.declared.log.Log.{Log}
use Rattle.rup_checker.specs.Formulas.{Cnf, Satisfies, listed}
use Rattle.rup_checker.specs.Steps.{IsRefused}
use Rattle.rup_checker.specs.Logs.{known, AreAccepted, IsEnded, IsBusy}
use Rattle.unroll_cnf.specs.Unrollings.{base_formula, step_formula}
use Rattle.unroll_cnf.specs.Counterexamples.{IsCounterexample}
use Rattle.kinduction.specs.declared.equal.Equal.{Equal}
use Rattle.kinduction.specs.declared.equal.Equal.TheVariants as equal
use Rattle.kinduction.specs.declared.found.Found.{Found}
use Rattle.kinduction.specs.declared.found.Found.TheVariants as found
use Rattle.kinduction.specs.Parts.{part_formula}
use Rattle.evidence.specs.declared.evidence.Evidence.{Evidence}
use Rattle.evidence.specs.declared.fault.Cause.{Cause}
use Rattle.evidence.specs.declared.fault.Cause.TheVariants as cause
use Rattle.evidence.specs.Spelling.{logs_text, part_count, equal_line, equal_text, entry_line, entries_text, first_model_text, models_text}
use Rattle.evidence.specs.Accepted.{IsSmallFormula, part_instants, entry_instants, place_formula}

-- the number of the line that follows a front
abbrev pub line_after : List ℕ → ℕ
line_after front = line_feeds front + 1

-- ---- logs

-- the cause of a step that is refused
abbrev pub IsStepCause : StepFault → Cause → Type 0
IsStepCause (fault.Unknown hint) why = why ≡ cause.Unknown hint
IsStepCause (fault.NotUnit hint) why = why ≡ cause.NotUnit hint
IsStepCause fault.NoConflict why = why ≡ cause.NoConflict
IsStepCause (fault.Literal l) why = why ≡ cause.Literal l
IsStepCause fault.Memory why = ⊥

-- a step of the log is refused, in its line
pub record StepFails (f : Cnf) (front : List ℕ) (log : Log) (line : ℕ) (why : Cause) : Type 0 where
  pub n : ℕ
  pub at : line ≡ line_after front + n + 1
  pub fault : StepFault
  pub named : IsStepCause fault why
  pub refused : IsSomeAnd (slice_get log.steps n) (λ s. IsRefused f.variables (known f (take n log.steps)) s.clause s.hints fault)

-- all steps of the log are accepted, but it doesn't end with the empty clause
pub record IsUnended (f : Cnf) (log : Log) : Type 0 where
  pub accepted : AreAccepted f log.steps
  pub unended : ¬ (IsEnded log.steps)

-- all steps of the log are accepted, but it isn't busy
pub record IsIdle (f : Cnf) (log : Log) : Type 0 where
  pub accepted : AreAccepted f log.steps
  pub idle : ¬ (IsBusy f log.steps)

-- the log doesn't refute the formula
abbrev pub RefutationFails : Cnf → List ℕ → Log → ℕ → Cause → Type 0
RefutationFails f front log line why =
    StepFails f front log line why
    ⊎ ((line ≡ line_after front) × (why ≡ cause.Unended) × IsUnended f log)

-- the log doesn't show that the budget is spent on the formula
abbrev pub SpentLogFails : Cnf → ℕ → List ℕ → Log → ℕ → Cause → Type 0
SpentLogFails f budget front log line why =
    ((line ≡ line_after front) × (why ≡ cause.Count) × (length log.steps ≢ budget))
    ⊎ StepFails f front log line why
    ⊎ ((line ≡ line_after front) × (why ≡ cause.Idle) × IsIdle f log)

-- one of the logs doesn't refute its formula
abbrev pub RefutationsFail : (ℕ → Cnf) → List ℕ → List Log → ℕ → Cause → Type 0
RefutationsFail formula front logs line why = (n : ℕ) × (n < length logs)
    × IsSomeAnd (slice_get logs n) (λ log. RefutationFails (formula n) (front ++ logs_text (take n logs)) log line why)

-- ---- claims

-- a formula that is used is too large
pub record IsTooLarge (instants signals : ℕ) (front : List ℕ) (line : ℕ) (why : Cause) : Type 0 where
  pub at : line ≡ line_after front
  pub named : why ≡ cause.Size
  pub large : ¬ (IsSmallFormula instants signals)

-- the formulas of the parts in order, of each its base formula and its step formula
abbrev pub NthPartFormula : MiterLll → ℕ → Cnf → Type 0
NthPartFormula m n f = (i : ℕ) × (stepping : Bool) × (n ≡ 2 * i + (if stepping then 1 else 0)) × (f ≡ part_formula m i stepping)

-- what is said of the parts fails
abbrev pub PartsFail : MiterLll → ℕ → List ℕ → Equal → ℕ → Cause → Type 0
PartsFail m budget front (equal.Shown logs) line why = (n : ℕ) × (f : Cnf) × NthPartFormula m n f
    × IsSomeAnd (slice_get logs n) (λ log. RefutationFails f (front ++ logs_text (take n logs)) log line why)
PartsFail m budget front (equal.Conflicts part stepping log) line why =
    SpentLogFails (part_formula m part stepping) budget front log line why

-- the rows are the inputs of a counterexample
abbrev pub IsTrace : Lll → ℕ → ℕ → List (List Bool) → Type 0
IsTrace l p j bits = (g : Table) × (map (input_values l.signals) g ≡ bits) × IsCounterexample l p j g

-- what shows an entry for the obligation p fails, besides the logs of base formulas
abbrev pub LastFails : Lll → ℕ → ℕ → ℕ → List ℕ → Found → ℕ → Cause → Type 0
LastFails l p depth budget front (found.Proved k bases step) line why = RefutationFails (step_formula l p k) front step line why
LastFails l p depth budget front (found.Falsified bits bases) line why =
    (line ≡ line_after front) × (why ≡ cause.Trace) × ¬ (IsTrace l p (length bases) bits)
LastFails l p depth budget front (found.Depth step_model bases) line why =
    (line ≡ line_after front) × (why ≡ cause.Model) × ¬ (Satisfies (listed step_model) (step_formula l p depth).clauses)
LastFails l p depth budget front (found.Conflicts place log bases) line why =
    SpentLogFails (place_formula l p place) budget front log line why

-- the logs of the base formulas that were refuted
abbrev pub base_logs : Found → List Log
base_logs (found.Proved k bases step) = bases
base_logs (found.Falsified bits bases) = bases
base_logs (found.Depth step_model bases) = bases
base_logs (found.Conflicts place log bases) = bases

-- an entry fails for the obligation p
abbrev pub EntryFails : Lll → ℕ → ℕ → ℕ → List ℕ → Found → ℕ → Cause → Type 0
EntryFails l p depth budget front entry line why =
    let logs = front ++ entry_line (p + 1) entry in
    IsTooLarge (entry_instants depth entry) (length l.signals) front line why
    ⊎ RefutationsFail (base_formula l p) logs (base_logs entry) line why
    ⊎ LastFails l p depth budget (logs ++ logs_text (base_logs entry)) entry line why

-- ---- the whole

-- what is said of the parts of the miter fails
abbrev pub EqualFails : Evidence → MiterLll → ℕ → Cause → Type 0
EqualFails e m line why =
    IsTooLarge (part_instants e.equal) (length m.lll.signals) (models_text e) line why
    ⊎ PartsFail m e.conflicts (models_text e ++ equal_line (part_count e.b) e.equal) e.equal line why

-- one of the entries fails
abbrev pub EntriesFail : Evidence → ℕ → Cause → Type 0
EntriesFail e line why = (p : ℕ) × (p < length e.entries)
    × IsSomeAnd (slice_get e.entries p) (λ entry. EntryFails e.a p e.depth e.conflicts
    (models_text e ++ equal_text (part_count e.b) e.equal ++ entries_text 1 (take p e.entries)) entry line why)

-- the two models have no miter
pub record HasNoMiter (e : Evidence) (line : ℕ) (why : Cause) : Type 0 where
  pub at : line ≡ line_after (first_model_text e)
  pub name : List ℕ
  pub named : why ≡ cause.Unpaired name
  pub unpaired : IsUnpaired e.a e.b name

-- the cause stands in this line
abbrev pub Fails : Evidence → ℕ → Cause → Type 0
Fails e line why =
    HasNoMiter e line why
    ⊎ ((m : MiterLll) × IsMiter e.a e.b m × (EqualFails e m line why ⊎ EntriesFail e line why))

-- the cause that comes first: that of the first line, and in one line `Count` before `Idle`
pub record FailsFirst (e : Evidence) (line : ℕ) (why : Cause) : Type 0 where
  pub fails : Fails e line why
  pub first : (other : ℕ) (reason : Cause) → Fails e other reason
      → (line < other) ⊎ ((line ≡ other) × ((reason ≡ why) ⊎ ((why ≡ cause.Count) × (reason ≡ cause.Idle))))
