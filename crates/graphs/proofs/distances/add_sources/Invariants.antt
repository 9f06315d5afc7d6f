use Rattle.std.proofs.Common.{take}
use Rattle.graphs.specs.Spreading.{AddsSource}
use Rattle.graphs.proofs.distances.add_sources.Given as goal

abbrev pub invariant-loop-target : goal.invariant-loop-target
invariant-loop-target l = AddsSource l.initial.sources.items l.sources.items l.node (take l.target-index l.row)
