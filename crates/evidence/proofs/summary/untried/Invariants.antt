use Rattle.std.proofs.Common.{◌≡◌}
use Rattle.std.specs.Prelude.{replicate}
use Rattle.evidence.specs.declared.summary.Line.TheVariants as line
use Rattle.evidence.proofs.summary.untried.Given as goal

abbrev pub invariant-loop : goal.invariant-loop
invariant-loop l = l.lines ≡ replicate l.counter line.Equivalence
