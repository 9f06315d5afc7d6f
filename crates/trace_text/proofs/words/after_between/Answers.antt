use Rattle.std.proofs.Common.{◌++◌}
use Rattle.trace_text.proofs.TextFronts.{front_both, match_none, match_second, never_first, never_second}
use Rattle.trace_text.proofs.words.after_between.Goals as goal

pub returns-in_err-text : goal.returns-in_err-text
returns-in_err-text c =
    match_none _ _ _ c.from_residual.ensures
    (never_first (c.args.first.now ++ c.args.bytes.now) c.args.last.now c.args.text.now (never_first c.args.first.now c.args.bytes.now c.args.text.now c.in_err-text.ensures))

pub returns-in_err-text-2 : goal.returns-in_err-text-2
returns-in_err-text-2 c =
    match_none _ _ _ c.from_residual-in_err-text-2.ensures
    (never_first (c.args.first.now ++ c.args.bytes.now) c.args.last.now c.args.text.now
    (never_second c.args.first.now c.args.bytes.now c.in_ok-text.text.now c.args.text.now c.in_ok-text.ensures c.in_err-text-2.ensures))

pub returns : goal.returns
returns c =
    match_second (c.args.first.now ++ c.args.bytes.now) c.args.last.now c.in_ok-text-2.text.now c.args.text.now c.after-3.result
    (front_both c.args.first.now c.args.bytes.now c.in_ok-text.text.now c.in_ok-text-2.text.now c.args.text.now c.in_ok-text.ensures c.in_ok-text-2.ensures)
    c.after-3.ensures
