use Rattle.std.proofs.Common.{map}
use Rattle.hll_expressions.proofs.JoinLemmas.{kind_gathered}
use Rattle.hll_expressions.proofs.join.whole_of.Goals as goal

pub returns : goal.returns
returns c = λ js h. (λ i. record { kind = kind_gathered c.in_ok-new.field-0 c.args.all.fields (map (λ j. j.kind) js) c.in_ok-new.ensures h.fields i; mismatched = h.mismatched i; wide = h.wide i; uneven = h.uneven i })
