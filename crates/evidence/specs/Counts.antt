-- Which values have a text: the numbers that may stand in one, and how many logs, rows and digits stand where.
use Rattle.std.specs.Prelude.{◌≡◌, ℕ, ◌+◌, ◌-◌, ◌*◌, ◌^◌, ◌<◌, ◌≤◌, List, [], ℤ, pos, negsuc, length, All}
use Rattle.lll_core.specs.declared.lll.Lll.{Lll}
use Rattle.lll_core.specs.Tables.{AreInputs}
use Rattle.rup_checker.specs.declared.log.Log.{Log}
use Rattle.rup_checker.specs.declared.log.Step.{Step}
use Rattle.kinduction.specs.declared.equal.Equal.{Equal}
use Rattle.kinduction.specs.declared.equal.Equal.TheVariants as equal
use Rattle.kinduction.specs.declared.found.Found.{Found}
use Rattle.kinduction.specs.declared.found.Found.TheVariants as found
use Rattle.kinduction.specs.declared.found.Spot.{Spot}
use Rattle.kinduction.specs.declared.found.Spot.TheVariants as spot
use Rattle.evidence.specs.declared.evidence.Evidence.{Evidence}
use Rattle.evidence.specs.Spelling.{part_count, text}

-- ---- logs

-- a literal of a step is a number from -2 ^ 31 to 2 ^ 31 - 1
abbrev pub IsLiteralNumber : ℤ → Type 0
IsLiteralNumber (pos n) = n < 2 ^ 31
IsLiteralNumber (negsuc n) = n < 2 ^ 31

-- a hint is at most 2 ^ 32 - 1
pub record IsStep (s : Step) : Type 0 where
  pub literals : All IsLiteralNumber s.clause
  pub hints : All (λ h. h < 2 ^ 32) s.hints

-- and so is the number of the steps of a log
pub record IsLog (log : Log) : Type 0 where
  pub count : length log.steps < 2 ^ 32
  pub steps : All IsStep log.steps

-- so many logs
pub record AreLogs (count : ℕ) (logs : List Log) : Type 0 where
  pub long : length logs ≡ count
  pub each : All IsLog logs

-- ---- what is shown

-- two logs for each part, or one for one of the parts
abbrev pub EqualFits : Lll → Equal → Type 0
EqualFits b (equal.Shown logs) = AreLogs (2 * part_count b) logs
EqualFits b (equal.Conflicts part stepping log) = (part < part_count b) × (part < 2 ^ 32) × IsLog log

-- a base formula is that of one of the first instants, and a step formula has so many at most before the last; there is
-- a log for each base formula before it
abbrev pub PlaceFits : ℕ → Spot → List Log → Type 0
PlaceFits depth (spot.Base j) bases = (j < depth) × AreLogs j bases
PlaceFits depth (spot.Step k) bases = (1 ≤ k) × (k ≤ depth) × AreLogs k bases

-- as many logs as base formulas were refuted, a value for each input at each instant, a value for each variable
abbrev pub EntryFits : ℕ → Lll → Found → Type 0
EntryFits depth a (found.Proved k bases step) = (1 ≤ k) × (k ≤ depth) × AreLogs k bases × IsLog step
EntryFits depth a (found.Falsified bits bases) =
    (1 ≤ length bits) × (length bits ≤ depth) × AreLogs (length bits - 1) bases × AreInputs a.signals bits
EntryFits depth a (found.Depth step_model bases) =
    AreLogs depth bases × (length step_model ≡ (depth + 1) * length a.signals)
EntryFits depth a (found.Conflicts place log bases) = PlaceFits depth place bases × IsLog log

-- an entry for each obligation where the parts are shown, and else none
abbrev pub EntriesFit : Lll → Equal → List Found → Type 0
EntriesFit a (equal.Shown logs) entries = length entries ≡ length a.obligations
EntriesFit a (equal.Conflicts part stepping log) entries = entries ≡ []

-- ---- the whole

-- the value has a text
pub record HasText (e : Evidence) : Type 0 where
  pub some_depth : 1 ≤ e.depth
  pub depth_bound : e.depth ≤ 64
  pub some_conflicts : 1 ≤ e.conflicts
  pub conflicts_bound : e.conflicts ≤ 1000000
  pub equal_fits : EqualFits e.b e.equal
  pub entries_fit : EntriesFit e.a e.equal e.entries
  pub each_fits : All (EntryFits e.depth e.a) e.entries

-- the bytes are the text of the value
pub record IsTextOf (bytes : List ℕ) (e : Evidence) : Type 0 where
  pub fits : HasText e
  pub spelled : bytes ≡ text e
