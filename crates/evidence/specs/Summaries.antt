-- What evidence shows of each obligation, in short.
use Rattle.std.specs.Prelude.{ℕ, List, [], ◌∷◌, length, map, replicate}
use Rattle.lll_core.specs.declared.lll.Lll.{Lll}
use Rattle.kinduction.specs.declared.equal.Equal.{Equal}
use Rattle.kinduction.specs.declared.equal.Equal.TheVariants as equal
use Rattle.kinduction.specs.declared.found.Found.{Found}
use Rattle.kinduction.specs.declared.found.Found.TheVariants as found
use Rattle.evidence.specs.declared.reader_due.Statement.{Statement}
use Rattle.evidence.specs.declared.reader_due.Statement.TheVariants as says
use Rattle.evidence.specs.declared.reader_lines.EqualLine.{EqualLine}
use Rattle.evidence.specs.declared.reader_lines.EqualLine.TheVariants as parts
use Rattle.evidence.specs.declared.reader_lines.Verdict.{Verdict}
use Rattle.evidence.specs.declared.reader_lines.Verdict.TheVariants as verdict
use Rattle.evidence.specs.declared.summary.Line.{Line}
use Rattle.evidence.specs.declared.summary.Line.TheVariants as line

-- the line of an entry
abbrev pub line_of : Found → Line
line_of (found.Proved k bases step) = line.Proved k
line_of (found.Falsified bits bases) = line.Falsified (length bits)
line_of (found.Depth step_model bases) = line.Depth
line_of (found.Conflicts place log bases) = line.Conflicts

-- a line for each obligation of a: that of its entry, or none was tried where the parts aren't shown
abbrev pub lines_of : Lll → Equal → List Found → List Line
lines_of a (equal.Shown logs) entries = map line_of entries
lines_of a (equal.Conflicts part stepping log) entries = replicate (length a.obligations) line.Equivalence

-- ---- as the lines of a text come

-- the line of a verdict
abbrev pub verdict_line : Verdict → Line
verdict_line (verdict.Proved k) = line.Proved k
verdict_line (verdict.Falsified n) = line.Falsified n
verdict_line verdict.Depth = line.Depth
verdict_line (verdict.Conflicts place) = line.Conflicts

-- what the line of the parts says of so many obligations
abbrev pub lines_at : EqualLine → ℕ → List Line
lines_at parts.Shown count = []
lines_at (parts.Conflicts part stepping) count = replicate count line.Equivalence

-- and what a later line says of one
abbrev pub lines_said : Statement → List Line
lines_said (says.Step step) = []
lines_said (says.Log count) = []
lines_said (says.Row values) = []
lines_said (says.Model values) = []
lines_said (says.Entry v) = verdict_line v ∷ []
lines_said says.End = []
