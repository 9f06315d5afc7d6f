-- Words for the contracts of private parts: what a text shows up to one of its lines, and the values whose texts begin so.
use Rattle.std.specs.Prelude.{◌≡◌, ℕ, zero, suc, ◌+◌, Bool, List, [], ◌∷◌, ◌++◌, length, codes}
use Rattle.std.specs.List.{flat_map}
use Rattle.lll_core.specs.declared.lll.Lll.{Lll}
use Rattle.lll_text.specs.Spelling.{line, number_field}
use Rattle.rup_checker.specs.declared.log.Log.{Log}
use Rattle.rup_checker.specs.declared.log.Step.{Step}
use Rattle.kinduction.specs.declared.equal.Equal.{Equal}
use Rattle.kinduction.specs.declared.equal.Equal.TheVariants as equal
use Rattle.kinduction.specs.declared.found.Found.{Found}
use Rattle.kinduction.specs.declared.found.Found.TheVariants as found
use Rattle.evidence.specs.declared.evidence.Evidence.{Evidence}
use Rattle.evidence.specs.declared.reader_due.Statement.{Statement}
use Rattle.evidence.specs.declared.reader_due.Statement.TheVariants as line
use Rattle.evidence.specs.declared.reader_lines.EqualLine.{EqualLine}
use Rattle.evidence.specs.declared.reader_lines.EqualLine.TheVariants as says
use Rattle.evidence.specs.declared.reader_lines.Verdict.{Verdict}
use Rattle.evidence.specs.declared.reader_lines.Verdict.TheVariants as verdict
use Rattle.evidence.specs.ByLines.{said_of, logs_shown, verdict_of, logs_of, rows_of, models_of}
use Rattle.evidence.specs.Readers.{equal_content, verdict_content}
use Rattle.evidence.specs.Rests.{rows_text, models_text}
use Rattle.evidence.specs.Spelling.{number_line, part_count, step_line, logs_text, equal_text, entries_text, first_model_text, models_text as both_models_text}

-- ---- what is shown

-- the numbers and the two models
pub record Header : Type 0 where
  pub depth : ℕ
  pub conflicts : ℕ
  pub a : Lll
  pub b : Lll

-- an entry that may not be whole, after what is shown before it
pub record OpenEntry : Type 0 where
  pub equal : Equal
  pub done : List Found
  pub verdict : Verdict
  pub logs : List Log
  pub rows : List (List Bool)
  pub models : List (List Bool)

-- the logs of the parts so far, or all of them and an entry
pub data Shown : Type 0 where
  Parts : EqualLine → List Log → Shown
  Entry : OpenEntry → Shown

-- what is still to come
pub record Rest : Type 0 where
  pub logs : List Log
  pub rows : List (List Bool)
  pub models : List (List Bool)
  pub entries : List Found

-- nothing is
abbrev pub nothing : Rest
nothing = record { logs = []; rows = []; models = []; entries = [] }

-- ---- of which values

abbrev pub header_of : Evidence → Header
header_of e = record { depth = e.depth; conflicts = e.conflicts; a = e.a; b = e.b }

-- the entry is the one that is open, with what is to come
pub record IsOpen (o : OpenEntry) (rest : Rest) (entry : Found) : Type 0 where
  pub verdict : verdict_of entry ≡ o.verdict
  pub logs : logs_of entry ≡ o.logs ++ rest.logs
  pub rows : rows_of entry ≡ o.rows ++ rest.rows
  pub models : models_of entry ≡ o.models ++ rest.models

-- the value shows the parts by these logs and those that are to come
pub record ShowsParts (said : EqualLine) (logs : List Log) (rest : Rest) (e : Evidence) : Type 0 where
  pub said_is : said_of e.equal ≡ said
  pub logs_are : logs_shown e.equal ≡ logs ++ rest.logs
  pub entries_are : e.entries ≡ rest.entries

-- the value has the open entry after these
pub record ShowsEntry (o : OpenEntry) (rest : Rest) (e : Evidence) : Type 0 where
  pub equal_is : e.equal ≡ o.equal
  pub entry : Found
  pub entries_are : e.entries ≡ o.done ++ entry ∷ rest.entries
  pub is_open : IsOpen o rest entry

abbrev pub Shows : Shown → Rest → Evidence → Type 0
Shows (Parts said logs) rest e = ShowsParts said logs rest e
Shows (Entry o) rest e = ShowsEntry o rest e

-- the value has what is shown, and more that is to come
pub record BeginsSo (h : Header) (s : Shown) (e : Evidence) : Type 0 where
  pub header : header_of e ≡ h
  pub rest : Rest
  pub shows : Shows s rest e

-- ---- its lines

-- a value of which nothing is shown
abbrev pub bare : Header → Evidence
bare h = record { depth = h.depth; conflicts = h.conflicts; a = h.a; b = h.b; equal = equal.Shown []; entries = [] }

-- the lines before the second model, and before what is shown
abbrev pub first_text : Header → List ℕ
first_text h = first_model_text (bare h)

abbrev pub header_text : Header → List ℕ
header_text h = both_models_text (bare h)

-- the lines before the logs of the parts
abbrev pub parts_front : Header → EqualLine → List ℕ
parts_front h said = header_text h ++ line (equal_content (part_count h.b) said)

-- the lines before the open entry, before its logs, and before its rows
abbrev pub entry_front : Header → OpenEntry → List ℕ
entry_front h o = header_text h ++ equal_text (part_count h.b) o.equal ++ entries_text 1 o.done

abbrev pub logs_front : Header → OpenEntry → List ℕ
logs_front h o = entry_front h o ++ line (codes "entry" ++ number_field (length o.done + 1) ++ verdict_content o.verdict)

abbrev pub rows_front : Header → OpenEntry → List ℕ
rows_front h o = logs_front h o ++ logs_text o.logs

-- all lines so far
abbrev pub shown_text : Header → Shown → List ℕ
shown_text h (Parts said logs) = parts_front h said ++ logs_text logs
shown_text h (Entry o) = rows_front h o ++ rows_text o.rows ++ models_text o.models

-- the lines of a log that has so many more steps to come; none, where it is closed
abbrev pub open_text : ℕ → List Step → List ℕ
open_text zero steps = []
open_text (suc left) steps = number_line (codes "log") (length steps + suc left) ++ flat_map step_line steps

-- ---- what one thing more makes of it

abbrev pub no_log : Log
no_log = record { steps = [] }

-- the last log, and those before it
abbrev pub last_log : Log → List Log → Log
last_log log [] = log
last_log log (next ∷ logs) = last_log next logs

abbrev pub logs_before : Log → List Log → List Log
logs_before log [] = []
logs_before log (next ∷ logs) = log ∷ logs_before next logs

abbrev pub last_of : List Log → Log
last_of [] = no_log
last_of (log ∷ logs) = last_log log logs

abbrev pub before_last : List Log → List Log
before_last [] = []
before_last (log ∷ logs) = logs_before log logs

abbrev pub first_values : List (List Bool) → List Bool
first_values [] = []
first_values (values ∷ more) = values

-- what is shown of the parts by these logs
abbrev pub equal_of : EqualLine → List Log → Equal
equal_of says.Shown logs = equal.Shown logs
equal_of (says.Conflicts part stepping) logs = equal.Conflicts part stepping (last_of logs)

-- the entry of this verdict that these make
abbrev pub found_of : Verdict → List Log → List (List Bool) → List (List Bool) → Found
found_of (verdict.Proved k) logs rows models = found.Proved k (before_last logs) (last_of logs)
found_of (verdict.Falsified n) logs rows models = found.Falsified rows logs
found_of verdict.Depth logs rows models = found.Depth (first_values models) logs
found_of (verdict.Conflicts place) logs rows models = found.Conflicts place (last_of logs) (before_last logs)

abbrev pub with_log : Shown → Log → Shown
with_log (Parts said logs) log = Parts said (logs ++ log ∷ [])
with_log (Entry o) log = Entry (record o { logs = o.logs ++ log ∷ [] })

abbrev pub with_row : Shown → List Bool → Shown
with_row (Parts said logs) row = Parts said logs
with_row (Entry o) row = Entry (record o { rows = o.rows ++ row ∷ [] })

abbrev pub with_model : Shown → List Bool → Shown
with_model (Parts said logs) values = Parts said logs
with_model (Entry o) values = Entry (record o { models = o.models ++ values ∷ [] })

abbrev pub with_entry : Shown → Verdict → Shown
with_entry (Parts said logs) v = Entry (record { equal = equal_of said logs; done = []; verdict = v; logs = []; rows = []; models = [] })
with_entry (Entry o) v =
    Entry (record { equal = o.equal; done = o.done ++ found_of o.verdict o.logs o.rows o.models ∷ []; verdict = v; logs = []; rows = []; models = [] })

-- a step more of a log that lacks so many
abbrev pub with_step : Shown → ℕ → List Step → Step → Shown
with_step s zero steps step = s
with_step s (suc zero) steps step = with_log s (record { steps = steps ++ step ∷ [] })
with_step s (suc (suc left)) steps step = s

-- the steps of the log that is open then
abbrev pub steps_then : ℕ → List Step → Step → List Step
steps_then zero steps step = steps ++ step ∷ []
steps_then (suc zero) steps step = []
steps_then (suc (suc left)) steps step = steps ++ step ∷ []

-- a log of so many steps begins
abbrev pub with_count : Shown → ℕ → Shown
with_count s zero = with_log s no_log
with_count s (suc count) = s

-- what is shown after a line more, where a log lacks so many steps
abbrev pub shown_after : Shown → ℕ → List Step → Statement → Shown
shown_after s left steps (line.Step step) = with_step s left steps step
shown_after s left steps (line.Log count) = with_count s count
shown_after s left steps (line.Row values) = with_row s values
shown_after s left steps (line.Model values) = with_model s values
shown_after s left steps (line.Entry v) = with_entry s v
shown_after s left steps line.End = s
