use Rattle.std.proofs.Common.{◌++◌, List, map, refl, ap, ◌∙◌}
use Rattle.hll_expressions.specs.declared.ranges.Placed.{Placed}
use Rattle.hll_expressions.specs.Ranges.{placed}
use Rattle.hll_expressions.proofs.ranges.Ranges.new.Goals as goal

pub returns : goal.returns
returns c new rs h = h.noted refl ∙ ap (λ (ps : List Placed). map placed ps ++ rs) c.new.ensures.items
