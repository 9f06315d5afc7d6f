use Rattle.std.proofs.Common.{◌<◌, take}
use Rattle.hll_lexer.specs.Pieces.{IsUnclosed}
use Rattle.hll_lexer.proofs.comments.closed_length.Given as goal

abbrev pub invariant-loop-i : goal.invariant-loop-i
invariant-loop-i l = (0 < l.i) × IsUnclosed (take l.i l.text)
