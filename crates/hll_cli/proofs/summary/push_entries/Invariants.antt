use Rattle.std.proofs.Common.{◌≡◌, ◌+◌, ◌++◌, drop}
use Rattle.hll_cli.specs.Check.{entries_text}
use Rattle.hll_cli.proofs.summary.push_entries.Given as goal

abbrev pub invariant-loop-index : goal.invariant-loop-index
invariant-loop-index l = l.out.items ++ entries_text (l.index + 1) (drop l.index l.shown) ≡ l.initial.out.items ++ entries_text 1 l.shown
