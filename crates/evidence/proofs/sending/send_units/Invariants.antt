use Rattle.std.proofs.Common.{◌≤◌, length, take, Ok}
use Rattle.std.specs.List.{flat_map}
use Rattle.ports.specs.Causes.{SameCounts, SameOtherCounts}
use Rattle.ports.specs.Contents.{Tells}
use Rattle.evidence.specs.Units.{unit_text}
use Rattle.evidence.specs.Writing.{SendsTo}
use Rattle.evidence.proofs.sending.send_units.Given as goal

abbrev pub invariant-loop-unit : goal.invariant-loop-unit
invariant-loop-unit g l = record {
  sent : Tells (g.D.Desk.told l.fn.desk) (g.D.Desk.told l.desk) (SendsTo l.name l.fn.pending.items (flat_map unit_text (take l.unit-index l.units)) (Ok tt) l.pending.items);
  piece : length l.pending.items ≤ 65536;
  later : g.D.Desk.write_faults l.fn.desk l.name ≤ g.D.Desk.write_faults l.desk l.name;
  other_writes : SameOtherCounts l.name (g.D.Desk.write_faults l.fn.desk) (g.D.Desk.write_faults l.desk);
  reads : SameCounts (g.D.Desk.read_faults l.fn.desk) (g.D.Desk.read_faults l.desk);
  given : SameCounts (g.D.Desk.given l.fn.desk) (g.D.Desk.given l.desk);
}
