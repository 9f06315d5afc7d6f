use Rattle.std.proofs.Common.{◌≡◌, ◌-◌, ◌++◌}
use Rattle.expand_api.specs.Digits.Values.{digits}
use Rattle.expand_api.proofs.code.digits_of.Given as goal

abbrev pub invariant-loop-i : goal.invariant-loop-i
invariant-loop-i l = l.found.items ++ digits (l.count - l._i) l.left ≡ digits l.count l.number
