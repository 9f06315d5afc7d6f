use Rattle.std.proofs.lemmas.Slice.Zip.{either_empty_from_Zip}
use Rattle.hll_cli.proofs.Printed.{values_end}
use Rattle.hll_cli.proofs.report.push_values.Goals as goal

pub returns : goal.returns
returns c = values_end (λ n. n.now) _ _ _ _ (either_empty_from_Zip c.loop-name.name-iterator c.next.new.self c.next.result c.in-None.is c.next.ensures.steps) c.loop-name.invariant
