use Rattle.std.proofs.Common.{pos, ◌*ℤ◌, rules, ap, ◌∙◌}
use Rattle.intervals.proofs.AnswerLemmas.{answered, back, back_lo, back_hi}
use Rattle.intervals.proofs.ProductLemmas.{multiple_order}
use Rattle.intervals.proofs.interval.Interval.times.Goals as goal

pub returns : goal.returns
returns c =
    let i = c.args.self.now in
    answered c.new.result _ _ (multiple_order c.args.n i.lo i.hi i.ordered)
    (back c.in_ok-lo.lo (search rules) ∙ c.in_ok-lo.ensures ∙ ap (λ z. pos c.args.n *ℤ z) (back_lo i))
    (back c.in_ok-hi.hi (search rules) ∙ c.in_ok-hi.ensures ∙ ap (λ z. pos c.args.n *ℤ z) (back_hi i))
    c.new.ensures
