use Rattle.std.proofs.Common.{◌+◌, ◌-◌, ◌≤◌, vec_len}
use Rattle.ports.specs.Causes.{SameCounts, SameOtherCounts}
use Rattle.ports.proofs.Reading.{GotFront, Got}
use Rattle.ports.proofs.desk.read_text.Given as goal

abbrev pub invariant-loop-chunk : goal.invariant-loop-chunk
invariant-loop-chunk g l = record {
  front : GotFront (g.D.Desk.told l.fn.desk) (g.D.Desk.told l.desk) l.name l.text.items;
  got : Got (vec_len l.text) (g.D.Desk.given l.fn.desk l.name) (g.D.Desk.given l.desk l.name);
  short : vec_len l.text ≤ l.limit + 1;
  later : g.D.Desk.read_faults l.fn.desk l.name ≤ g.D.Desk.read_faults l.desk l.name;
  other_given : SameOtherCounts l.name (g.D.Desk.given l.fn.desk) (g.D.Desk.given l.desk);
  other_reads : SameOtherCounts l.name (g.D.Desk.read_faults l.fn.desk) (g.D.Desk.read_faults l.desk);
  writes : SameCounts (g.D.Desk.write_faults l.fn.desk) (g.D.Desk.write_faults l.desk);
}

abbrev pub decreases-loop-chunk : goal.decreases-loop-chunk
decreases-loop-chunk g l = l.limit + 1 - vec_len l.text
