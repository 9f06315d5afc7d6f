use Rattle.std.proofs.Common.{◌≡◌, ◌-◌, ◌++◌}
use Rattle.miter.specs.Miters.{literals_from}
use Rattle.miter.proofs.comparing.push_literals.Given as goal

abbrev pub invariant-loop-number : goal.invariant-loop-number
invariant-loop-number l = l.literals.items ≡ l.fn.literals.items ++ literals_from l.first (l.number - l.first)
