use Rattle.std.proofs.Common.{◌≡◌, ◌++◌, take, map}
use Rattle.evidence.specs.Spelling.{bit}
use Rattle.evidence.proofs.lines.put_bits.Given as goal

abbrev pub invariant-loop-value : goal.invariant-loop-value
invariant-loop-value l = l.out.items ≡ l.initial.out.items ++ map bit (take l.value-index l.values)
