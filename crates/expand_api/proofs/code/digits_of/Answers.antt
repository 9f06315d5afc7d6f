use Rattle.std.proofs.Common.{ap, sym, ◌∙◌, arith, ◌-◌, ◌+◌, ◌/◌, ◌++◌}
use Rattle.expand_api.specs.Digits.Values.{digits}
use Rattle.expand_api.proofs.CodeLemmas.{digits_more}
use Rattle.expand_api.proofs.code.digits_of.Goals as goal

pub loop-i-preserved : goal.loop-i-preserved
loop-i-preserved c =
    let pushed = c.in_ok-push.ensures.items in
    ap (λ xs. xs ++ digits (c.args.count - (c.loop-i._i + 1)) (c.loop-i.left / 2)) pushed
    ∙ sym (digits_more c.loop-i.found.items c.args.count c.loop-i._i c.loop-i.left (omega arith))
    ∙ c.loop-i.invariant
