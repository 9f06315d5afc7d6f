use Rattle.std.proofs.Common.{◌≡◌, ℕ, ◌+◌, ◌-◌, ◌≤◌, List, length}
use Rattle.ports.specs.Causes.{SameCounts, SameOtherCounts}
use Rattle.ports.proofs.Reading.{GotFront, Got}
use Rattle.evidence.specs.Checking.{file_limit}
use Rattle.evidence.specs.Stands.{Stands}
use Rattle.evidence.proofs.checking.feed_file.Given as goal

abbrev pub invariant-loop-at : goal.invariant-loop-at
invariant-loop-at g l = record {
  text : List ℕ;
  here : l.at ≡ length text;
  stands : Stands l.feed text;
  front : GotFront (g.D.Desk.told l.fn.desk) (g.D.Desk.told l.desk) l.name text;
  got : Got (length text) (g.D.Desk.given l.fn.desk l.name) (g.D.Desk.given l.desk l.name);
  short : l.at ≤ file_limit + 1;
  later : g.D.Desk.read_faults l.fn.desk l.name ≤ g.D.Desk.read_faults l.desk l.name;
  other_given : SameOtherCounts l.name (g.D.Desk.given l.fn.desk) (g.D.Desk.given l.desk);
  other_reads : SameOtherCounts l.name (g.D.Desk.read_faults l.fn.desk) (g.D.Desk.read_faults l.desk);
  writes : SameCounts (g.D.Desk.write_faults l.fn.desk) (g.D.Desk.write_faults l.desk);
}

abbrev pub decreases-loop-at : goal.decreases-loop-at
decreases-loop-at g l = file_limit + 1 - l.at
