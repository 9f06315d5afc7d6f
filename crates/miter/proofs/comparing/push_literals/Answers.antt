use Rattle.std.proofs.Common.{◌≡◌, suc, ◌+◌, ◌-◌, ◌*◌, ◌++◌, ◌∷◌, [], ◌∙◌, ap, sym, arith, append_assoc}
use Rattle.miter.specs.Miters.{literals_from}
use Rattle.miter.proofs.CompareLemmas.{literals_push}
use Rattle.miter.proofs.comparing.push_literals.Goals as goal

pub loop-number-preserved : goal.loop-number-preserved
loop-number-preserved c =
    let n = c.loop-number.number in
    let first = c.args.first in
    let next : n + 1 - first ≡ suc (n - first) = omega arith in
    let last : first + (n - first) ≡ n = omega arith in
    c.in_ok-push.ensures.items ∙ ap (λ k. k ++ 2 * n ∷ []) c.loop-number.invariant
    ∙ append_assoc c.args.literals.now.items (literals_from first (n - first)) (2 * n ∷ [])
    ∙ ap (λ k. c.args.literals.now.items ++ k) (ap (λ k. literals_from first (n - first) ++ 2 * k ∷ []) (sym last) ∙ sym (literals_push first (n - first)) ∙ ap (literals_from first) (sym next))
