use Rattle.std.proofs.Common.{◌+◌, ◌≤◌, length, ap, sym, subst, arith, slice_set}
use Rattle.lll_core.proofs.ListLemmas.{item_at}
use Rattle.lll_core.proofs.EquationLemmas.{IsWritten, read_within, taken_small, written_value, written_input, written_all, only_row}
use Rattle.lll_core.proofs.evaluation.eval_into.Goals as goal
use Rattle.lll_core.proofs.evaluation.eval_into.Goals.{in-Some, in-None}

pub overflow_add-taken : goal.overflow_add-taken
overflow_add-taken c =
    let at = item_at c.args.lll.now.signals _ c.loop-number.number c.signal-item.result c.as_slice-signal-items.ensures c.loop-number-test.true c.signal-item.is in
    omega (arith, taken_small _ _ _ _ c.args.lll.now.is_lll.are_signals.lower _ _ _ _ c.loop-number.invariant at c.requires.inputs (sym c.in-None.ensures.input) c.args.lll.now.is_lll.are_signals.few)

pub bounds-inputs-taken : goal.bounds-inputs-taken
bounds-inputs-taken c =
    let at = item_at c.args.lll.now.signals _ c.loop-number.number c.signal-item.result c.as_slice-signal-items.ensures c.loop-number-test.true c.signal-item.is in
    omega (arith, read_within _ _ _ _ c.args.lll.now.is_lll.are_signals.lower _ _ _ _ c.loop-number.invariant at c.requires.inputs (sym c.in-None.ensures.input))

pub loop-number-preserved : goal.loop-number-preserved
loop-number-preserved c =
    let at = item_at c.args.lll.now.signals _ c.loop-number.number c.signal-item.result c.as_slice-signal-items.ensures c.loop-number-test.true c.signal-item.is in
    let lower = c.args.lll.now.is_lll.are_signals.lower in
    elim c.match-signal_value.branch [
      | in-Some w ↦
          subst (λ k. IsWritten c.args.first c.args.before.now c.args.inputs.now c.args.lll.now.signals (c.loop-number.number + 1) k (slice_set c.loop-number.now c.loop-number.number c.match-signal_value.now)) (sym w.taken-is)
          (subst (λ v. IsWritten c.args.first c.args.before.now c.args.inputs.now c.args.lll.now.signals (c.loop-number.number + 1) c.loop-number.taken (slice_set c.loop-number.now c.loop-number.number v)) (sym w.now-is)
          (written_value _ _ _ _ lower _ _ _ _ c.loop-number.invariant at w.in-Some.value (sym w.in-Some.ensures.input) w.in-Some.ensures.now w.in-Some.ensures.start w.in-Some.ensures.after))
      | in-None w ↦
          subst (λ k. IsWritten c.args.first c.args.before.now c.args.inputs.now c.args.lll.now.signals (c.loop-number.number + 1) k (slice_set c.loop-number.now c.loop-number.number c.match-signal_value.now)) (sym w.taken-is)
          (written_input _ _ _ _ lower _ _ _ _ c.loop-number.invariant at c.match-signal_value.now (sym w.in-None.ensures.input)
          w.now-is)
    ]

-- all signals are read
past : (c : goal.After-loop-number) → length c.args.lll.now.signals ≤ c.loop-number.number
past c = subst (λ k. k ≤ c.loop-number.number) (ap length c.as_slice-signal-items.ensures) c.loop-number-test.false

pub returns-clause-row : goal.returns-clause-row
returns-clause-row c = written_all _ _ _ _ c.loop-number.number _ _ c.loop-number.invariant c.requires.inputs (past c)

pub returns-clause-only : goal.returns-clause-only
returns-clause-only c = λ other row. only_row _ _ _ c.args.lll.now.is_lll.are_signals.lower c.args.first _ other
    (written_all _ _ _ _ c.loop-number.number _ _ c.loop-number.invariant c.requires.inputs (past c)) row
