use Rattle.std.proofs.Common.{◌≡◌, ◌++◌, take}
use Rattle.std.specs.List.{flat_map}
use Rattle.evidence.specs.Spelling.{log_text}
use Rattle.evidence.specs.Units.{unit_text}
use Rattle.evidence.proofs.unit.push_logs.Given as goal

abbrev pub invariant-loop-log : goal.invariant-loop-log
invariant-loop-log l = flat_map unit_text l.units.items ≡ flat_map unit_text l.initial.units.items ++ flat_map log_text (take l.log-index l.logs)
