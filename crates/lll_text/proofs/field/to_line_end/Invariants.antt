use Rattle.lll_text.proofs.FieldLemmas.{Passed}
use Rattle.lll_text.proofs.field.to_line_end.Given as goal

abbrev pub invariant-loop-count : goal.invariant-loop-count
invariant-loop-count l = Passed l.text l.count
