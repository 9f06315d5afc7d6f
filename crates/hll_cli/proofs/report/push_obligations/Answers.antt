use Rattle.std.proofs.lemmas.Slice.Zip.{either_empty_from_Zip}
use Rattle.hll_cli.proofs.Printed.{obligations_end}
use Rattle.hll_cli.proofs.report.push_obligations.Goals as goal

pub returns : goal.returns
returns c =
    obligations_end (λ e. e.now) _ _ _ _ _ _ _
    (either_empty_from_Zip c.loop-obligation.obligation-iterator c.next.new.self c.next.result c.in-None.is c.next.ensures.steps)
    c.loop-obligation.invariant.printed
