use Rattle.std.proofs.Common.{◌≡◌, ◌++◌, take}
use Rattle.std.specs.List.{flat_map}
use Rattle.evidence.specs.Spelling.{entries_text}
use Rattle.evidence.specs.Units.{unit_text}
use Rattle.evidence.proofs.unit.push_entries.Given as goal

abbrev pub invariant-loop-index : goal.invariant-loop-index
invariant-loop-index l = flat_map unit_text l.units.items ≡ flat_map unit_text l.initial.units.items ++ entries_text 1 (take l.index l.entries)
