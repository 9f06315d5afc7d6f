-- The one text of a value, line by line.
use Rattle.std.specs.Prelude.{ℕ, ◌+◌, Bool, List, [], ◌∷◌, ◌++◌, ℤ, length, map, codes, if◌then◌else◌}
use Rattle.std.specs.Fmt.{signed_decimal}
use Rattle.std.specs.List.{flat_map}
use Rattle.lll_core.specs.declared.lll.Lll.{Lll}
use Rattle.lll_core.specs.Tables.{latch_count}
use Rattle.lll_text.specs.Spelling.{line, number_field, spelling}
use Rattle.rup_checker.specs.declared.log.Log.{Log}
use Rattle.rup_checker.specs.declared.log.Step.{Step}
use Rattle.kinduction.specs.declared.equal.Equal.{Equal}
use Rattle.kinduction.specs.declared.equal.Equal.TheVariants as equal
use Rattle.kinduction.specs.declared.found.Found.{Found}
use Rattle.kinduction.specs.declared.found.Found.TheVariants as found
use Rattle.kinduction.specs.declared.found.Spot.{Spot}
use Rattle.kinduction.specs.declared.found.Spot.TheVariants as spot
use Rattle.evidence.specs.declared.evidence.Evidence.{Evidence}

-- a line of a word and a number
abbrev pub number_line : List ℕ → ℕ → List ℕ
number_line word n = line (word ++ number_field n)

-- ---- logs

-- a space and a literal
abbrev pub literal_field : ℤ → List ℕ
literal_field l = codes " " ++ signed_decimal l

-- literals, parted by spaces
abbrev pub literals : List ℤ → List ℕ
literals [] = []
literals (l ∷ ls) = signed_decimal l ++ flat_map literal_field ls

-- a step: its literals, a colon and its hints
abbrev pub step_line : Step → List ℕ
step_line s = line (literals s.clause ++ codes ":" ++ flat_map number_field s.hints)

-- a log: the number of its steps, then the steps
abbrev pub log_text : Log → List ℕ
log_text log = number_line (codes "log") (length log.steps) ++ flat_map step_line log.steps

-- logs, one after the other
abbrev pub logs_text : List Log → List ℕ
logs_text logs = flat_map log_text logs

-- ---- truth values

-- the digit of a truth value
abbrev pub bit : Bool → ℕ
bit value = if value then 0x31 else 0x30

-- a line of truth values
abbrev pub bits_line : List ℕ → List Bool → List ℕ
bits_line word values = line (word ++ map bit values)

-- ---- the parts

-- how many parts the miter with a model has: its latches, constraints and obligations, both keeps and the other's assume
abbrev pub part_count : Lll → ℕ
part_count b = latch_count b.signals + length b.constraints + length b.obligations + 3

-- whether it is the step formula of a part, or its base formula
abbrev pub formula_field : Bool → List ℕ
formula_field stepping = if stepping then codes " step" else codes " base"

-- the line of so many parts, which are numbered from 1
abbrev pub equal_line : ℕ → Equal → List ℕ
equal_line parts (equal.Shown logs) = number_line (codes "equal shown") parts
equal_line parts (equal.Conflicts part stepping log) =
    line (codes "equal conflicts" ++ number_field (part + 1) ++ formula_field stepping)

-- what is shown of them
abbrev pub equal_text : ℕ → Equal → List ℕ
equal_text parts (equal.Shown logs) = equal_line parts (equal.Shown logs) ++ logs_text logs
equal_text parts (equal.Conflicts part stepping log) = equal_line parts (equal.Conflicts part stepping log) ++ log_text log

-- ---- the obligations

-- a formula of an obligation
abbrev pub place_field : Spot → List ℕ
place_field (spot.Base j) = codes " base" ++ number_field j
place_field (spot.Step k) = codes " step" ++ number_field k

-- what was found
abbrev pub verdict_field : Found → List ℕ
verdict_field (found.Proved k bases step) = codes " proved" ++ number_field k
verdict_field (found.Falsified bits bases) = codes " falsified" ++ number_field (length bits)
verdict_field (found.Depth step_model bases) = codes " depth"
verdict_field (found.Conflicts place log bases) = codes " conflicts" ++ place_field place

-- what shows it
abbrev pub proof_text : Found → List ℕ
proof_text (found.Proved k bases step) = logs_text bases ++ log_text step
proof_text (found.Falsified bits bases) = logs_text bases ++ flat_map (bits_line (codes "bits:")) bits
proof_text (found.Depth step_model bases) = logs_text bases ++ bits_line (codes "model:") step_model
proof_text (found.Conflicts place log bases) = logs_text bases ++ log_text log

-- the line of the obligation with this number
abbrev pub entry_line : ℕ → Found → List ℕ
entry_line number entry = line (codes "entry" ++ number_field number ++ verdict_field entry)

-- what is shown of it
abbrev pub entry_text : ℕ → Found → List ℕ
entry_text number entry = entry_line number entry ++ proof_text entry

-- what is shown of obligations that are numbered from here on
abbrev pub entries_text : ℕ → List Found → List ℕ
entries_text number [] = []
entries_text number (entry ∷ entries) = entry_text number entry ++ entries_text (number + 1) entries

-- ---- the whole

-- the numbers
abbrev pub numbers_text : Evidence → List ℕ
numbers_text e = line (codes "hll-evidence 1") ++ number_line (codes "depth") e.depth ++ number_line (codes "conflicts") e.conflicts

-- and the first model
abbrev pub first_model_text : Evidence → List ℕ
first_model_text e = numbers_text e ++ line (codes "text a") ++ spelling e.a

-- and the second model
abbrev pub models_text : Evidence → List ℕ
models_text e = first_model_text e ++ line (codes "text b") ++ spelling e.b

-- the one text of a value
abbrev pub text : Evidence → List ℕ
text e = models_text e ++ equal_text (part_count e.b) e.equal ++ entries_text 1 e.entries ++ line (codes "end")
