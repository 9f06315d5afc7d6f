-- Words for the contracts of private parts: which lines are due after the models.
use Rattle.std.specs.Prelude.{◌≡◌, ℕ, ◌+◌, ◌-◌, ◌^◌, ◌<◌, true, false, List, ◌++◌, length, map, codes, nat_lt, if◌then◌else◌}
use Rattle.lll_text.specs.Spelling.{number_field}
use Rattle.kinduction.specs.declared.found.Spot.{Spot}
use Rattle.kinduction.specs.declared.found.Spot.TheVariants as spot
use Rattle.evidence.specs.declared.reader_due.Bounds.{Bounds}
use Rattle.evidence.specs.declared.reader_due.Due.{Due}
use Rattle.evidence.specs.declared.reader_due.Kind.{Kind}
use Rattle.evidence.specs.declared.reader_due.Kind.TheVariants as kind
use Rattle.evidence.specs.declared.reader_due.Statement.{Statement}
use Rattle.evidence.specs.declared.reader_due.Statement.TheVariants as says
use Rattle.evidence.specs.declared.reader_lines.Verdict.{Verdict}
use Rattle.evidence.specs.declared.reader_lines.Verdict.TheVariants as verdict
use Rattle.evidence.specs.Counts.{IsStep}
use Rattle.evidence.specs.Spelling.{bit}
use Rattle.evidence.specs.Readers.{VerdictFits, step_content, verdict_content}

-- what the next line is: steps come first, then logs, rows, an assignment, entries and the end
abbrev pub due_kind : Due → Kind
due_kind due =
    if nat_lt 0 due.steps then kind.Step
    else if nat_lt 0 due.logs then kind.Log
    else if nat_lt 0 due.rows then kind.Row
    else if due.model then kind.Model
    else if nat_lt 0 due.entries then kind.Entry
    else kind.End

-- what kind of line says this
abbrev pub kind_of : Statement → Kind
kind_of (says.Step step) = kind.Step
kind_of (says.Log count) = kind.Log
kind_of (says.Row values) = kind.Row
kind_of (says.Model values) = kind.Model
kind_of (says.Entry v) = kind.Entry
kind_of says.End = kind.End

-- what it says fits
abbrev pub LineFits : Bounds → Statement → Type 0
LineFits bounds (says.Step step) = IsStep step
LineFits bounds (says.Log count) = count < 2 ^ 32
LineFits bounds (says.Row values) = length values ≡ bounds.inputs
LineFits bounds (says.Model values) = length values ≡ bounds.variables
LineFits bounds (says.Entry v) = VerdictFits bounds.depth v
LineFits bounds says.End = Unit {0}

-- the line is due, and what it says fits
pub record IsDue (bounds : Bounds) (due : Due) (said : Statement) : Type 0 where
  pub kind : kind_of said ≡ due_kind due
  pub fits : LineFits bounds said

-- what stands in the line before its line feed, where the next entry has this number
abbrev pub line_content : ℕ → Statement → List ℕ
line_content number (says.Step step) = step_content step
line_content number (says.Log count) = codes "log" ++ number_field count
line_content number (says.Row values) = codes "bits:" ++ map bit values
line_content number (says.Model values) = codes "model:" ++ map bit values
line_content number (says.Entry v) = codes "entry" ++ number_field number ++ verdict_content v
line_content number says.End = codes "end"

-- how many logs a verdict needs
abbrev pub place_logs : Spot → ℕ
place_logs (spot.Base j) = j + 1
place_logs (spot.Step k) = k + 1

-- what is due after an entry's line
abbrev pub after_verdict : ℕ → Due → Verdict → Due
after_verdict depth due (verdict.Proved k) = record due { logs = k + 1; entries = due.entries - 1; number = due.number + 1 }
after_verdict depth due (verdict.Falsified n) = record due { logs = n - 1; rows = n; entries = due.entries - 1; number = due.number + 1 }
after_verdict depth due verdict.Depth = record due { logs = depth; model = true; entries = due.entries - 1; number = due.number + 1 }
after_verdict depth due (verdict.Conflicts place) = record due { logs = place_logs place; entries = due.entries - 1; number = due.number + 1 }

-- what is due after a line
abbrev pub due_after : ℕ → Due → Statement → Due
due_after depth due (says.Step step) = record due { steps = due.steps - 1 }
due_after depth due (says.Log count) = record due { steps = count; logs = due.logs - 1 }
due_after depth due (says.Row values) = record due { rows = due.rows - 1 }
due_after depth due (says.Model values) = record due { model = false }
due_after depth due (says.Entry v) = after_verdict depth due v
due_after depth due says.End = due
