use Rattle.std.proofs.Common.{◌≡◌, ◌++◌, take}
use Rattle.lll_text.specs.Spelling.{signal_lines}
use Rattle.lll_text.proofs.writing.put_signal_lines.Given as goal

abbrev pub invariant-loop-number : goal.invariant-loop-number
invariant-loop-number l = l.out.items ≡ l.initial.out.items ++ signal_lines 0 (take l.number l.signals)
