use Rattle.lll_text.proofs.FieldLemmas.{Counted}
use Rattle.lll_text.proofs.field.digits_at.Given as goal

abbrev pub invariant-loop-count : goal.invariant-loop-count
invariant-loop-count l = Counted l.text l.value l.count
