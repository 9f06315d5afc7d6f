-- Words for the contracts of private parts: how many lines the text of a part of a value has.
use Rattle.std.specs.Prelude.{ℕ, ◌+◌, List, length, sum_by}
use Rattle.rup_checker.specs.declared.log.Log.{Log}
use Rattle.kinduction.specs.declared.found.Found.{Found}
use Rattle.kinduction.specs.declared.found.Found.TheVariants as found
use Rattle.kinduction.specs.declared.equal.Equal.{Equal}
use Rattle.kinduction.specs.declared.equal.Equal.TheVariants as equal
use Rattle.evidence.specs.Refusals.{base_logs}

-- the lines of a log
abbrev pub log_lines : Log → ℕ
log_lines log = length log.steps + 1

-- and of logs
abbrev pub logs_lines : List Log → ℕ
logs_lines logs = sum_by log_lines logs

-- the lines of what shows an entry, besides the logs of base formulas
abbrev pub last_lines : Found → ℕ
last_lines (found.Proved k bases step) = log_lines step
last_lines (found.Falsified bits bases) = length bits
last_lines (found.Depth step_model bases) = 1
last_lines (found.Conflicts place log bases) = log_lines log

-- the lines of an entry
abbrev pub entry_lines : Found → ℕ
entry_lines entry = 1 + logs_lines (base_logs entry) + last_lines entry

-- and of entries
abbrev pub entries_lines : List Found → ℕ
entries_lines entries = sum_by entry_lines entries

-- the lines of what is shown of the parts, after the first
abbrev pub parts_lines : Equal → ℕ
parts_lines (equal.Shown logs) = logs_lines logs
parts_lines (equal.Conflicts part stepping log) = log_lines log
