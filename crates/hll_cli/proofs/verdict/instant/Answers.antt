use Rattle.hll_cli.proofs.Rows.{row_push, row_whole}
use Rattle.hll_cli.proofs.verdict.instant.Goals as goal

pub loop-position-preserved : goal.loop-position-preserved
loop-position-preserved c = row_push _ _ _ _ _ c.loop-position-test.true c.loop-position.invariant c.in_ok-push.ensures.ok

pub returns : goal.returns
returns c = row_whole _ _ _ _ c.loop-position-test.false c.loop-position.invariant
