use Rattle.std.proofs.Common.{◌≡◌, take}
use Rattle.hll_cli.specs.Table.{row}
use Rattle.hll_cli.proofs.verdict.instant.Given as goal

abbrev pub invariant-loop-position : goal.invariant-loop-position
invariant-loop-position l = l.values ≡ take l.position (row l.inputs l.number)
