-- Words for the contracts of private parts: what a value's lines say of its parts.
use Rattle.std.specs.Prelude.{ℕ, ◌+◌, ◌-◌, Bool, true, false, List, [], ◌∷◌, ◌++◌, length}
use Rattle.rup_checker.specs.declared.log.Log.{Log}
use Rattle.kinduction.specs.declared.equal.Equal.{Equal}
use Rattle.kinduction.specs.declared.equal.Equal.TheVariants as equal
use Rattle.kinduction.specs.declared.found.Found.{Found}
use Rattle.kinduction.specs.declared.found.Found.TheVariants as found
use Rattle.evidence.specs.declared.reader_lines.EqualLine.{EqualLine}
use Rattle.evidence.specs.declared.reader_lines.EqualLine.TheVariants as says
use Rattle.evidence.specs.declared.reader_lines.Verdict.{Verdict}
use Rattle.evidence.specs.declared.reader_lines.Verdict.TheVariants as verdict
use Rattle.evidence.specs.Due.{place_logs}

-- ---- the parts

-- what the line of the parts says
abbrev pub said_of : Equal → EqualLine
said_of (equal.Shown logs) = says.Shown
said_of (equal.Conflicts part stepping log) = says.Conflicts part stepping

-- the logs after it
abbrev pub logs_shown : Equal → List Log
logs_shown (equal.Shown logs) = logs
logs_shown (equal.Conflicts part stepping log) = log ∷ []

-- ---- an entry

-- what its line says
abbrev pub verdict_of : Found → Verdict
verdict_of (found.Proved k bases step) = verdict.Proved k
verdict_of (found.Falsified bits bases) = verdict.Falsified (length bits)
verdict_of (found.Depth step_model bases) = verdict.Depth
verdict_of (found.Conflicts place log bases) = verdict.Conflicts place

-- the logs after it
abbrev pub logs_of : Found → List Log
logs_of (found.Proved k bases step) = bases ++ step ∷ []
logs_of (found.Falsified bits bases) = bases
logs_of (found.Depth step_model bases) = bases
logs_of (found.Conflicts place log bases) = bases ++ log ∷ []

-- the rows after them
abbrev pub rows_of : Found → List (List Bool)
rows_of (found.Proved k bases step) = []
rows_of (found.Falsified bits bases) = bits
rows_of (found.Depth step_model bases) = []
rows_of (found.Conflicts place log bases) = []

-- and the assignments
abbrev pub models_of : Found → List (List Bool)
models_of (found.Proved k bases step) = []
models_of (found.Falsified bits bases) = []
models_of (found.Depth step_model bases) = step_model ∷ []
models_of (found.Conflicts place log bases) = []

-- ---- how many of each a verdict needs

abbrev pub log_count : ℕ → Verdict → ℕ
log_count depth (verdict.Proved k) = k + 1
log_count depth (verdict.Falsified n) = n - 1
log_count depth verdict.Depth = depth
log_count depth (verdict.Conflicts place) = place_logs place

abbrev pub rows_due : Verdict → ℕ
rows_due (verdict.Proved k) = 0
rows_due (verdict.Falsified n) = n
rows_due verdict.Depth = 0
rows_due (verdict.Conflicts place) = 0

abbrev pub has_model : Verdict → Bool
has_model (verdict.Proved k) = false
has_model (verdict.Falsified n) = false
has_model verdict.Depth = true
has_model (verdict.Conflicts place) = false
