use Rattle.std.proofs.Common.{◌≡◌, suc, refl, ap, sym, ◌∙◌, arith, add-one, take, true, false, if◌then◌else◌}
use Rattle.lll_core.specs.Signals.{is_latch}
use Rattle.lll_core.specs.Tables.{count_where}
use Rattle.lll_core.proofs.ListLemmas.{item_at}
use Rattle.lll_core.proofs.RowLemmas.{count_where-next}
use Rattle.miter.proofs.counting.latch_count.Goals as goal
use Rattle.miter.proofs.counting.latch_count.Goals.{then-is_latch, else-is_latch}

pub loop-signal-preserved : goal.loop-signal-preserved
loop-signal-preserved c =
    let at = item_at c.args.signals.now c.args.signals.now c.loop-signal.signal-index c.signal-item.result refl c.loop-signal-test.true c.signal-item.is in
    let next = count_where-next is_latch c.args.signals.now c.loop-signal.signal-index c.signal-item.result at in
    let so_far = count_where is_latch (take c.loop-signal.signal-index c.args.signals.now) in
    elim c.if-is_latch.branch [
      | then-is_latch w ↦
          let e : is_latch c.signal-item.result ≡ true = sym c.is_latch.ensures ∙ w.if-is_latch.true in
          (w.count-is ∙ add-one c.loop-signal.count ∙ ap suc c.loop-signal.invariant.0 ∙ sym (next ∙ ap (λ b. if b then suc so_far else so_far) e), omega (arith, w.count-is, c.loop-signal.invariant.1))
      | else-is_latch w ↦
          let e : is_latch c.signal-item.result ≡ false = sym c.is_latch.ensures ∙ w.if-is_latch.false in
          (w.count-is ∙ c.loop-signal.invariant.0 ∙ sym (next ∙ ap (λ b. if b then suc so_far else so_far) e), omega (arith, w.count-is, c.loop-signal.invariant.1))
    ]
