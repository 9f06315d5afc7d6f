use Rattle.std.proofs.Common.{ℕ, arith, length-append, length-take, length-drop, ◌+◌, ◌≡◌, ◌++◌, ◌≤◌, take, length, ◌∙◌}
use Rattle.ports.proofs.Reading.{GotFront_more, Got_more}
use Rattle.evidence.proofs.checking.feed_file.Goals as goal

pub loop-at-preserved : goal.loop-at-preserved
loop-at-preserved g c =
    let inv = c.loop-at.invariant in
    let n = c.in_ok-count.count in
    let buffer = c.get.new.into in
    let fits : n ≤ length buffer = c.in_ok-count.ensures.within in
    let grown : length (inv.text ++ take n buffer) ≡ length inv.text + n = omega (arith, length-append inv.text (take n buffer), length-take n buffer, fits) in
    record {
      text = inv.text ++ take n buffer;
      here = omega (arith, inv.here, grown);
      stands = c.feed.ensures.stands inv.text inv.stands;
      front = GotFront_more _ _ _ _ _ _ _ _ inv.here fits inv.front c.in_ok-count.ensures.bytes;
      got = rw grown (Got_more _ _ _ _ _ inv.got c.in_ok-count.ensures.given);
      short = omega (arith, inv.here, grown, fits, c.get.auto.into, length-take {A = ℕ}, length-drop {A = ℕ});
      later = omega (arith, inv.later, c.in_ok-count.ensures.cause.later);
      other_given = λ other differs. c.in_ok-count.ensures.other_given other differs ∙ inv.other_given other differs;
      other_reads = λ other differs. c.in_ok-count.ensures.other_reads other differs ∙ inv.other_reads other differs;
      writes = λ name. c.in_ok-count.ensures.writes name ∙ inv.writes name;
    }
