use Rattle.std.proofs.Common.{◌≤◌, length}
use Rattle.ports.proofs.Sending.{Sent}
use Rattle.ports.proofs.sink.write_all.Given as goal

abbrev pub invariant-loop-rest : goal.invariant-loop-rest
invariant-loop-rest g l = record {
  sent : Sent (g.S.Sink.told l.initial.sink) (g.S.Sink.told l.sink) l.bytes l.rest;
  later : g.S.Sink.faults l.initial.sink ≤ g.S.Sink.faults l.sink;
}

abbrev pub decreases-loop-rest : goal.decreases-loop-rest
decreases-loop-rest g l = length l.rest
