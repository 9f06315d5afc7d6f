use Rattle.hll_expressions.proofs.KindForms.{kind_of_bool}
use Rattle.hll_expressions.proofs.FormLemmas.{whole_given}
use Rattle.hll_expressions.proofs.judging.truth_value.Goals as goal

pub returns : goal.returns
returns c = whole_given _ _ _ _ kind_of_bool
