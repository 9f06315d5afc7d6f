use Rattle.std.proofs.Common.{◌≤◌, length, take, Ok}
use Rattle.std.specs.List.{flat_map}
use Rattle.ports.specs.Causes.{SameCounts, SameOtherCounts}
use Rattle.ports.specs.Contents.{Tells}
use Rattle.evidence.specs.Spelling.{step_line}
use Rattle.evidence.specs.Writing.{SendsTo}
use Rattle.evidence.proofs.sending.send_steps.Given as goal

abbrev pub invariant-loop-step : goal.invariant-loop-step
invariant-loop-step g l = record {
  sent : Tells (g.D.Desk.told l.fn.desk) (g.D.Desk.told l.desk) (SendsTo l.name l.fn.pending.items (flat_map step_line (take l.step-index l.steps)) (Ok tt) l.pending.items);
  piece : length l.pending.items ≤ 65536;
  later : g.D.Desk.write_faults l.fn.desk l.name ≤ g.D.Desk.write_faults l.desk l.name;
  other_writes : SameOtherCounts l.name (g.D.Desk.write_faults l.fn.desk) (g.D.Desk.write_faults l.desk);
  reads : SameCounts (g.D.Desk.read_faults l.fn.desk) (g.D.Desk.read_faults l.desk);
  given : SameCounts (g.D.Desk.given l.fn.desk) (g.D.Desk.given l.desk);
}
