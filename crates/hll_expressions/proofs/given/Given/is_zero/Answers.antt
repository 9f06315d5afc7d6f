use Rattle.std.proofs.Common.{refl, ◌∙◌}
use Rattle.hll_meaning.specs.Values.{number}
use Rattle.hll_expressions.proofs.given.Given.is_zero.Goals as goal

pub returns : goal.returns
returns c = λ j d. c.is_zero.ensures (number j.value) (c.number.ensures ∙ (d.worth refl).same)
