use Rattle.kinduction.proofs.PartLogs.{IsShownTo}
use Rattle.kinduction.proofs.comparing.equivalence.Given as goal

abbrev pub invariant-loop-part : goal.invariant-loop-part
invariant-loop-part l = IsShownTo l.m l.budget l.part l.logs
