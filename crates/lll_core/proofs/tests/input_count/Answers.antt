use Rattle.std.proofs.Common.{◌≡◌, suc, refl, ap, sym, ◌∙◌, arith, add-one, take, true, false, if◌then◌else◌}
use Rattle.lll_core.specs.Signals.{is_input}
use Rattle.lll_core.specs.Tables.{count_where}
use Rattle.lll_core.proofs.ListLemmas.{item_at}
use Rattle.lll_core.proofs.RowLemmas.{count_where-next}
use Rattle.lll_core.proofs.tests.input_count.Goals as goal
use Rattle.lll_core.proofs.tests.input_count.Goals.{then-is_input, else-is_input}

pub loop-signal-preserved : goal.loop-signal-preserved
loop-signal-preserved c =
    let at = item_at c.args.signals.now c.args.signals.now c.loop-signal.signal-index c.signal-item.result refl c.loop-signal-test.true c.signal-item.is in
    let next = count_where-next is_input c.args.signals.now c.loop-signal.signal-index c.signal-item.result at in
    let so_far = count_where is_input (take c.loop-signal.signal-index c.args.signals.now) in
    elim c.if-is_input.branch [
      | then-is_input w ↦
          let e : is_input c.signal-item.result ≡ true = sym c.is_input.ensures ∙ w.if-is_input.true in
          (w.count-is ∙ add-one c.loop-signal.count ∙ ap suc c.loop-signal.invariant.0 ∙ sym (next ∙ ap (λ b. if b then suc so_far else so_far) e), omega (arith, w.count-is, c.loop-signal.invariant.1))
      | else-is_input w ↦
          let e : is_input c.signal-item.result ≡ false = sym c.is_input.ensures ∙ w.if-is_input.false in
          (w.count-is ∙ c.loop-signal.invariant.0 ∙ sym (next ∙ ap (λ b. if b then suc so_far else so_far) e), omega (arith, w.count-is, c.loop-signal.invariant.1))
    ]
