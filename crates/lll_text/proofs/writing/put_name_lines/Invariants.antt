use Rattle.std.proofs.Common.{◌≡◌, ◌++◌, take}
use Rattle.std.specs.List.{flat_map}
use Rattle.lll_text.specs.Spelling.{name_line}
use Rattle.lll_text.proofs.writing.put_name_lines.Given as goal

abbrev pub invariant-loop-named : goal.invariant-loop-named
invariant-loop-named l = l.out.items ≡ l.initial.out.items ++ flat_map name_line (take l.named-index l.names)
