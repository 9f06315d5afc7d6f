-- When the claims of a value hold.
use Rattle.std.specs.Prelude.{◌≡◌, ℕ, ◌+◌, ◌-◌, ◌*◌, ◌<◌, ◌≤◌, Bool, List, length, IsSomeAnd, slice_get, if◌then◌else◌}
use Rattle.lll_core.specs.declared.lll.Lll.{Lll}
use Rattle.miter.specs.declared.parts.MiterLll.{MiterLll}
use Rattle.miter.specs.Pairs.{Paired}
use Rattle.miter.specs.Miters.{IsMiter}
use Rattle.rup_checker.specs.declared.log.Log.{Log}
use Rattle.rup_checker.specs.Formulas.{Cnf, Satisfies, listed}
use Rattle.rup_checker.specs.Logs.{IsBusy}
use Rattle.unroll_cnf.specs.Unrollings.{base_formula, step_formula}
use Rattle.kinduction.specs.declared.equal.Equal.{Equal}
use Rattle.kinduction.specs.declared.equal.Equal.TheVariants as equal
use Rattle.kinduction.specs.declared.found.Found.{Found}
use Rattle.kinduction.specs.declared.found.Found.TheVariants as found
use Rattle.kinduction.specs.declared.found.Spot.{Spot}
use Rattle.kinduction.specs.declared.found.Spot.TheVariants as spot
use Rattle.kinduction.specs.Parts.{ShowParts, part_formula}
use Rattle.kinduction.specs.Rounds.{IsProof, IsBreak, RefuteBases}
use Rattle.evidence.specs.declared.evidence.Evidence.{Evidence}

-- ---- sizes

-- a formula of so many instants, of so many signals each, has at most 16,000,000 variables
abbrev pub IsSmallFormula : ℕ → ℕ → Type 0
IsSmallFormula instants signals = instants * signals ≤ 16000000

-- the instants of the largest formula of a part that is used
abbrev pub part_instants : Equal → ℕ
part_instants (equal.Shown logs) = 2
part_instants (equal.Conflicts part stepping log) = if stepping then 2 else 1

-- the instants of the formula at a place
abbrev pub place_instants : Spot → ℕ
place_instants (spot.Base j) = j + 1
place_instants (spot.Step k) = k + 1

-- the instants of the largest formula of an obligation that is used; a trace of one instant uses none
abbrev pub entry_instants : ℕ → Found → ℕ
entry_instants depth (found.Proved k bases step) = k + 1
entry_instants depth (found.Falsified bits bases) = length bits - 1
entry_instants depth (found.Depth step_model bases) = depth + 1
entry_instants depth (found.Conflicts place log bases) = place_instants place

-- ---- claims

-- the log has as many steps as the budget allows, and is busy
pub record IsSpentLog (f : Cnf) (budget : ℕ) (log : Log) : Type 0 where
  pub whole : length log.steps ≡ budget
  pub busy : IsBusy f log.steps

-- the parts are shown, or the budget is spent on a formula of one
abbrev pub EqualHolds : MiterLll → ℕ → Equal → Type 0
EqualHolds m budget (equal.Shown logs) = ShowParts m logs
EqualHolds m budget (equal.Conflicts part stepping log) = IsSpentLog (part_formula m part stepping) budget log

-- the formula at a place
abbrev pub place_formula : Lll → ℕ → Spot → Cnf
place_formula l p (spot.Base j) = base_formula l p j
place_formula l p (spot.Step k) = step_formula l p k

-- the logs refute the base formulas of the instants before the depth, and the step formula of the depth is satisfied
pub record IsUndecided (l : Lll) (p depth : ℕ) (step_model : List Bool) (bases : List Log) : Type 0 where
  pub count : length bases ≡ depth
  pub bases_refuted : RefuteBases l p bases
  pub satisfied : Satisfies (listed step_model) (step_formula l p depth).clauses

-- the logs refute the base formulas before the place, and the budget is spent on the formula there
pub record IsSpentAt (l : Lll) (p budget : ℕ) (place : Spot) (log : Log) (bases : List Log) : Type 0 where
  pub bases_refuted : RefuteBases l p bases
  pub spent : IsSpentLog (place_formula l p place) budget log

-- what each entry claims of the obligation p
abbrev pub EntryHolds : Lll → ℕ → ℕ → ℕ → Found → Type 0
EntryHolds l p depth budget (found.Proved k bases step) = IsProof l p k bases step
EntryHolds l p depth budget (found.Falsified bits bases) = IsBreak l p bits bases
EntryHolds l p depth budget (found.Depth step_model bases) = IsUndecided l p depth step_model bases
EntryHolds l p depth budget (found.Conflicts place log bases) = IsSpentAt l p budget place log bases

-- an entry is accepted for the obligation p
pub record IsAcceptedEntry (l : Lll) (p depth budget : ℕ) (entry : Found) : Type 0 where
  pub small : IsSmallFormula (entry_instants depth entry) (length l.signals)
  pub holds : EntryHolds l p depth budget entry

-- ---- the whole

-- the two models have a miter, and all claims hold
pub record Accepted (e : Evidence) : Type 0 where
  pub paired : Paired e.a e.b
  pub m : MiterLll
  pub miter : IsMiter e.a e.b m
  pub small : IsSmallFormula (part_instants e.equal) (length m.lll.signals)
  pub equal_holds : EqualHolds m e.conflicts e.equal
  pub entries : (p : ℕ) → p < length e.entries →
      IsSomeAnd (slice_get e.entries p) (IsAcceptedEntry e.a p e.depth e.conflicts)
