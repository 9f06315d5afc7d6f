use Rattle.std.proofs.Common.{map, take}
use Rattle.std.specs.List.{AllZip}
use Rattle.hll_cli.specs.Table.{IsDecidedBy}
use Rattle.hll_cli.proofs.verdict.verdicts.Given as goal

abbrev pub invariant-loop-obligation : goal.invariant-loop-obligation
invariant-loop-obligation l = AllZip (IsDecidedBy (map (λ n. n.now) l.names)) (take l.obligation-index (map (λ e. e.now) l.obligations)) l.verdicts
