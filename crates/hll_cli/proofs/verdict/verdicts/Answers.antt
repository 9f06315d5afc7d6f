use Rattle.std.proofs.Common.{◌≡◌, true, map}
use Rattle.hll_cli.specs.BooleanTexts.{is_boolean, UsesOnly}
use Rattle.hll_cli.proofs.Decides.{all_zip_push, all_map_item, take_map_item}
use Rattle.hll_cli.proofs.verdict.verdicts.Goals as goal

pub verdict_on-requires-clause-boolean : goal.verdict_on-requires-clause-boolean
verdict_on-requires-clause-boolean c =
    all_map_item (λ e. is_boolean e ≡ true) (λ e. e.now) c.args.obligations.now c.loop-obligation.obligation-index c.obligation-item.result c.loop-obligation-test.true c.obligation-item.is c.requires.boolean

pub verdict_on-requires-clause-declared : goal.verdict_on-requires-clause-declared
verdict_on-requires-clause-declared c =
    all_map_item (UsesOnly (map (λ n. n.now) c.args.names.now)) (λ e. e.now) c.args.obligations.now c.loop-obligation.obligation-index c.obligation-item.result
    c.loop-obligation-test.true c.obligation-item.is c.requires.declared

pub loop-obligation-preserved : goal.loop-obligation-preserved
loop-obligation-preserved c =
    let next = take_map_item (λ e. e.now) c.args.obligations.now c.loop-obligation.obligation-index c.obligation-item.result c.loop-obligation-test.true c.obligation-item.is in
    rw (next, c.in_ok-push.ensures.ok) (all_zip_push _ _ _ _ _ c.loop-obligation.invariant c.in_ok-verdict_on.ensures)
