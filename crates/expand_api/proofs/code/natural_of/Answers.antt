use Rattle.std.proofs.Common.{◌+◌, ◌∙◌, arith}
use Rattle.expand_api.proofs.CodeLemmas.{read_true, read_false, read_fits}
use Rattle.expand_api.proofs.code.natural_of.Goals as goal
use Rattle.expand_api.proofs.code.natural_of.Goals.{then-digit, else-digit}

pub overflow_add-number : goal.overflow_add-number
overflow_add-number c =
    let xs = c.args.digits.now in
    let read = read_true xs c.loop-i.i c.loop-i.number c.requires c.loop-i.invariant c.loop-i-test.true c.if-digit.true in
    record { fits = omega (arith, read, read_fits xs (c.loop-i.i + 1) c.requires) }

pub loop-i-preserved : goal.loop-i-preserved
loop-i-preserved c =
    let xs = c.args.digits.now in
    elim c.if-digit.branch [
      | then-digit w ↦ w.number-is ∙ read_true xs c.loop-i.i c.loop-i.number c.requires c.loop-i.invariant c.loop-i-test.true w.if-digit.true
      | else-digit w ↦ w.number-is ∙ read_false xs c.loop-i.i c.loop-i.number c.loop-i.invariant c.loop-i-test.true w.if-digit.false
    ]
