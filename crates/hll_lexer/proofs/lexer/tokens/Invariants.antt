use Rattle.std.proofs.Common.{◌-◌, length}
use Rattle.hll_lexer.proofs.SplitLemmas.{IsCutTo}
use Rattle.hll_lexer.proofs.lexer.tokens.Given as goal

abbrev pub invariant-loop-from : goal.invariant-loop-from
invariant-loop-from l = IsCutTo l.text l.from l.tokens.items

abbrev pub decreases-loop-from : goal.decreases-loop-from
decreases-loop-from l = length l.text - l.from
