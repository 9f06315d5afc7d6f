use Rattle.std.proofs.Common.{◌≡◌, ◌++◌, take}
use Rattle.std.specs.List.{flat_map}
use Rattle.lll_text.specs.Spelling.{number_field}
use Rattle.evidence.proofs.lines.put_hints.Given as goal

abbrev pub invariant-loop-hint : goal.invariant-loop-hint
invariant-loop-hint l = l.out.items ≡ l.initial.out.items ++ flat_map number_field (take l.hint-index l.hints)
