use Rattle.std.proofs.Common.{◌≡◌}
use Rattle.std.specs.Map.{lookup}
use Rattle.std.specs.Str.{bytes_eq}
use Rattle.hll_lexer.proofs.TableLemmas.{rows_from}
use Rattle.hll_lexer.proofs.words.reserved_in.Given as goal

abbrev pub invariant-loop-spelling : goal.invariant-loop-spelling
invariant-loop-spelling l = lookup (bytes_eq l.word) (rows_from l.spelling-index l.rows) ≡ lookup (bytes_eq l.word) (rows_from 0 l.rows)
