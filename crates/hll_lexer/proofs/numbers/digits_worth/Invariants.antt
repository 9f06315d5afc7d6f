use Rattle.std.proofs.Common.{◌≡◌, take}
use Rattle.hll_lexer.specs.Numbers.{digits_worth}
use Rattle.hll_lexer.proofs.numbers.digits_worth.Given as goal

abbrev pub invariant-loop-digit : goal.invariant-loop-digit
invariant-loop-digit l = l.total ≡ digits_worth l.base (take l.digit-index l.digits)
