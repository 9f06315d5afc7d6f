use Rattle.std.proofs.Common.{◌≡◌, ◌++◌, take}
use Rattle.std.specs.List.{flat_map}
use Rattle.lll_text.specs.Spelling.{literal_line}
use Rattle.lll_text.proofs.writing.put_literal_lines.Given as goal

abbrev pub invariant-loop-literal : goal.invariant-loop-literal
invariant-loop-literal l = l.out.items ≡ l.initial.out.items ++ flat_map (literal_line l.word) (take l.literal-index l.literals)
