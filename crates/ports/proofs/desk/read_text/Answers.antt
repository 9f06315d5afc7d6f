use Rattle.std.proofs.Common.{ℕ, arith, length-take, length-drop, ◌+◌, ◌≡◌, ◌++◌, ◌≤◌, take, length, ◌∙◌, vec_len}
use Rattle.ports.proofs.Reading.{GotFront_more, Got_more}
use Rattle.ports.proofs.desk.read_text.Goals as goal

pub loop-chunk-preserved : goal.loop-chunk-preserved
loop-chunk-preserved g c =
    let text = c.loop-chunk.text in
    let longer : c.extend_from_slice.new.self.items ≡ text.items ++ take c.in_ok-count.count c.get.new.into = rw c.reserve.ensures.items at c.in_ok-extend_from_slice.ensures.items in
    let here : c.len-at.result ≡ length text.items = c.len-at.ensures ∙ text.ok.0 in
    let fits : c.in_ok-count.count ≤ length c.get.new.into = c.in_ok-count.ensures.within in
    let grown : vec_len c.extend_from_slice.new.self ≡ vec_len text + c.in_ok-count.count = omega (arith, c.reserve.ensures.len, c.in_ok-extend_from_slice.ensures.len, length-take c.in_ok-count.count c.get.new.into, c.get.auto.into, length-take {A = ℕ}, length-drop {A = ℕ}) in
    let counted : vec_len c.extend_from_slice.new.self ≤ c.args.limit + 1 = omega (arith, grown, c.get.auto.into, length-take {A = ℕ}, length-drop {A = ℕ}) in
    record {
      front = rw longer (GotFront_more _ _ _ _ _ _ _ _ here fits c.loop-chunk.invariant.front c.in_ok-count.ensures.bytes);
      got = rw grown (Got_more _ _ _ _ _ c.loop-chunk.invariant.got c.in_ok-count.ensures.given);
      short = counted;
      later = omega (arith, c.in_ok-count.ensures.cause.later);
      other_given = λ other differs. c.in_ok-count.ensures.other_given other differs ∙ c.loop-chunk.invariant.other_given other differs;
      other_reads = λ other differs. c.in_ok-count.ensures.other_reads other differs ∙ c.loop-chunk.invariant.other_reads other differs;
      writes = λ name. c.in_ok-count.ensures.writes name ∙ c.loop-chunk.invariant.writes name;
    }
