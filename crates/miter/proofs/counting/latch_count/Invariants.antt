use Rattle.std.proofs.Common.{◌≡◌, ◌≤◌, take}
use Rattle.lll_core.specs.Signals.{is_latch}
use Rattle.lll_core.specs.Tables.{count_where}
use Rattle.miter.proofs.counting.latch_count.Given as goal

abbrev pub invariant-loop-signal : goal.invariant-loop-signal
invariant-loop-signal l = (l.count ≡ count_where is_latch (take l.signal-index l.signals)) × (l.count ≤ l.signal-index)
