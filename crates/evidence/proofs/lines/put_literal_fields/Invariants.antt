use Rattle.std.proofs.Common.{◌≡◌, ◌++◌, take}
use Rattle.std.specs.List.{flat_map}
use Rattle.evidence.specs.Spelling.{literal_field}
use Rattle.evidence.proofs.lines.put_literal_fields.Given as goal

abbrev pub invariant-loop-literal : goal.invariant-loop-literal
invariant-loop-literal l = l.out.items ≡ l.initial.out.items ++ flat_map literal_field (take l.literal-index l.literals)
