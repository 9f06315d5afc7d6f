use Rattle.std.proofs.Common.{take}
use Rattle.evidence.specs.Claims.{IsSized, HasRun}
use Rattle.evidence.proofs.trace.breaks.Given as goal

abbrev pub invariant-loop-row : goal.invariant-loop-row
invariant-loop-row l = record {
  sized : IsSized l.l l.trace;
  run : HasRun l.l (take l.row-index l.rows) l.trace;
}
