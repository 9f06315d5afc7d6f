use Rattle.std.proofs.Common.{◌≡◌, take}
use Rattle.expand_api.specs.Digits.Values.{natural}
use Rattle.expand_api.proofs.code.natural_of.Given as goal

abbrev pub invariant-loop-i : goal.invariant-loop-i
invariant-loop-i l = l.number ≡ natural (take l.i l.digits)
