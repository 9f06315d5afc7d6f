use Rattle.std.proofs.Common.{◌≡◌, nat_eq}
use Rattle.std.specs.List.{find, starts_with}
use Rattle.hll_lexer.proofs.TableLemmas.{rows_from}
use Rattle.hll_lexer.proofs.marks.mark_in.Given as goal

abbrev pub invariant-loop-spelling : goal.invariant-loop-spelling
invariant-loop-spelling l =
    find (λ row. starts_with nat_eq l.text row.0) (rows_from l.spelling-index l.rows) ≡ find (λ row. starts_with nat_eq l.text row.0) (rows_from 0 l.rows)
