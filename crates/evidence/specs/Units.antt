-- Words for the contracts of private parts: the text in order, as lines and logs.
use Rattle.std.specs.Prelude.{ℕ, List}
use Rattle.evidence.specs.declared.unit.Unit.{Unit}
use Rattle.evidence.specs.declared.unit.Unit.TheVariants as unit
use Rattle.evidence.specs.Spelling.{log_text}

-- the lines of a unit
abbrev pub unit_text : Unit → List ℕ
unit_text (unit.Text bytes) = bytes.items
unit_text (unit.Log log) = log_text log.now
