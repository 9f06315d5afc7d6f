use Rattle.std.proofs.Common.{take}
use Rattle.graphs.specs.Spreading.{Spreads, reaching}
use Rattle.graphs.proofs.distances.Distances.visit.Given as goal

abbrev pub invariant-loop-source : goal.invariant-loop-source
invariant-loop-source l = Spreads (reaching l.initial.self) (reaching l.self) (take l.source-index l.sources) l.distance
