use Rattle.std.proofs.Common.{◌≡◌, true, take}
use Rattle.std.specs.Prelude.{All}
use Rattle.lll_core.specs.Tables.{value}
use Rattle.evidence.proofs.trace.is_admitted.Given as goal

abbrev pub invariant-loop-constraint : goal.invariant-loop-constraint
invariant-loop-constraint l = All (λ c. value l.now c ≡ true) (take l.constraint-index l.constraints)
