use Rattle.hll_lexer.proofs.PlaceLemmas.{further, further_feed}
use Rattle.hll_lexer.proofs.places.place_from.Goals as goal
use Rattle.hll_lexer.proofs.places.place_from.Goals.{then-byte-eq10, else-byte-eq10}

pub loop-byte-preserved : goal.loop-byte-preserved
loop-byte-preserved c =
    elim c.if-byte-eq10.branch [
      | then-byte-eq10 w ↦ further_feed c.args.text.now c.args.from c.args.at c.loop-byte.byte-index c.loop-byte.here c.if-byte-eq10.here c.loop-byte-test.true w.if-byte-eq10.true c.loop-byte.invariant w.here-is
      | else-byte-eq10 w ↦ further c.args.text.now c.args.from c.args.at c.loop-byte.byte-index c.loop-byte.here c.if-byte-eq10.here c.loop-byte-test.true w.if-byte-eq10.false c.loop-byte.invariant w.here-is
    ]
