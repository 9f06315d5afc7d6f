use Rattle.std.proofs.Common.{arith, below_more}
use Rattle.std.proofs.lemmas.Grind.{common_steps}
use Rattle.hll_cli.proofs.Rows.{row-at}
use Rattle.hll_cli.proofs.table.input.Goals as goal

pub loop-number-preserved : goal.loop-number-preserved
loop-number-preserved c =
    let there = row-at c.args.inputs c.loop-number.number c.args.position c.requires.there in
    (c.rows-rows.ensures, grind (arith, common_steps), below_more _ _ (λ k h. grind (arith, common_steps, c.loop-number.invariant.2 k h)) (grind (arith, common_steps)))
