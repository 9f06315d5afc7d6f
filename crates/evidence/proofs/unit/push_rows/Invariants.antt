use Rattle.std.proofs.Common.{◌≡◌, take}
use Rattle.std.specs.Prelude.{codes}
use Rattle.std.specs.List.{flat_map}
use Rattle.evidence.specs.Spelling.{bits_line}
use Rattle.evidence.proofs.unit.push_rows.Given as goal

abbrev pub invariant-loop-row : goal.invariant-loop-row
invariant-loop-row l = l.text.items ≡ flat_map (bits_line (codes "bits:")) (take l.row-index l.rows)
