use Rattle.std.proofs.Common.{◌≡◌, ◌++◌, map, take}
use Rattle.hll_cli.proofs.collect.push_obligations.Given as goal

abbrev pub invariant-loop-expression : goal.invariant-loop-expression
invariant-loop-expression l =
    map (λ e. e.now) l.obligations.items ≡ map (λ e. e.now) l.initial.obligations.items ++ take l.expression-index l.expression-items
