use Rattle.std.proofs.Common.{map, length}
use Rattle.trace_text.specs.Parts.{AreLines}
use Rattle.trace_text.proofs.reading.read_trace.Given as goal

abbrev pub invariant-loop-rest : goal.invariant-loop-rest
invariant-loop-rest l = AreLines l.checked l.text (map (λ row. row.items) l.rows.items) l.rest

abbrev pub decreases-loop-rest : goal.decreases-loop-rest
decreases-loop-rest l = length l.rest
