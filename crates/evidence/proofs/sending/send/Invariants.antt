use Rattle.std.proofs.Common.{◌≤◌, length}
use Rattle.ports.specs.Causes.{SameCounts, SameOtherCounts}
use Rattle.evidence.proofs.SendingLemmas.{Sent}
use Rattle.evidence.proofs.sending.send.Given as goal

abbrev pub invariant-loop-rest : goal.invariant-loop-rest
invariant-loop-rest g l = record {
  sent : Sent (g.D.Desk.told l.fn.desk) (g.D.Desk.told l.desk) l.name l.fn.pending.items l.bytes l.rest l.pending.items;
  piece : length l.pending.items ≤ 65536;
  later : g.D.Desk.write_faults l.fn.desk l.name ≤ g.D.Desk.write_faults l.desk l.name;
  other_writes : SameOtherCounts l.name (g.D.Desk.write_faults l.fn.desk) (g.D.Desk.write_faults l.desk);
  reads : SameCounts (g.D.Desk.read_faults l.fn.desk) (g.D.Desk.read_faults l.desk);
  given : SameCounts (g.D.Desk.given l.fn.desk) (g.D.Desk.given l.desk);
}

abbrev pub decreases-loop-rest : goal.decreases-loop-rest
decreases-loop-rest g l = length l.rest
