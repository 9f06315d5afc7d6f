use Rattle.std.proofs.Common.{◌≡◌, ◌++◌, take}
use Rattle.miter.specs.Miters.{comparisons}
use Rattle.miter.proofs.comparing.push_comparisons.Given as goal

abbrev pub invariant-loop-number : goal.invariant-loop-number
invariant-loop-number l = l.signals.items ≡ l.fn.signals.items ++ comparisons l.places (take l.number l.a) (take l.number l.b)
