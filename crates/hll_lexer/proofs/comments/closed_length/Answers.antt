use Rattle.std.proofs.Common.{arith}
use Rattle.hll_lexer.proofs.FrontLemmas.{unclosed_next, unclosed_first, unclosed_all, closes_here}
use Rattle.hll_lexer.proofs.comments.closed_length.Goals as goal
use Rattle.hll_lexer.proofs.comments.closed_length.Goals.{else-text-i-eq42-via-then-text-i-eq42+else-text-i-eq47, else-text-i-eq42-via-else-text-i-eq42}

pub loop-i-init : goal.loop-i-init
loop-i-init c = (omega arith, unclosed_first c.args.text.now)

pub returns-then-text-i-eq47 : goal.returns-then-text-i-eq47
returns-then-text-i-eq47 c =
    closes_here c.args.text.now c.loop-i.i c.loop-i.invariant.0 c.loop-i-test.true c.loop-i.invariant.1 c.if-text-i-eq42.true c.if-text-i-eq47.true

pub loop-i-preserved : goal.loop-i-preserved
loop-i-preserved c =
    let text = c.args.text.now in
    let i = c.loop-i.i in (
      omega arith,
      elim c.else-text-i-eq42.branch [
        | else-text-i-eq42-via-then-text-i-eq42+else-text-i-eq47 w ↦ unclosed_next text i c.loop-i.invariant.0 c.loop-i-test.true c.loop-i.invariant.1 (λ _ slash. w.if-text-i-eq47.false slash)
        | else-text-i-eq42-via-else-text-i-eq42 w ↦ unclosed_next text i c.loop-i.invariant.0 c.loop-i-test.true c.loop-i.invariant.1 (λ star _. w.if-text-i-eq42.false star)
      ],
    )

pub returns : goal.returns
returns c = unclosed_all c.args.text.now c.loop-i.i (omega arith) c.loop-i.invariant.1
