use Rattle.std.proofs.Common.{sym}
use Rattle.std.proofs.lemmas.List.{append-nil}
use Rattle.lll_text.proofs.SignalLines.{signal_lines-next, signal_lines-nil}
use Rattle.lll_text.proofs.writing.put_signal_lines.Goals as goal

pub loop-number-init : goal.loop-number-init
loop-number-init c = rw signal_lines-nil (sym (append-nil c.args.out.now.items))

pub loop-number-preserved : goal.loop-number-preserved
loop-number-preserved c =
    signal_lines-next c.args.out.now.items c.loop-number.out.items _ c.args.signals.now c.loop-number.number c.index-signals-number.result c.loop-number-test.true c.index-signals-number.is c.loop-number.invariant c.in_ok-put_signal_line.ensures
