use Rattle.std.proofs.Common.{◌∙◌, rules}
use Rattle.intervals.specs.Answers.{ends}
use Rattle.intervals.proofs.AnswerLemmas.{back}
use Rattle.intervals.proofs.DivisionLemmas.{quotients_taken}
use Rattle.intervals.proofs.hull.Hull.of_quotients.Goals as goal

pub returns : goal.returns
returns c =
    let q = back c.first_quotient.result (search rules) ∙ c.first_quotient.ensures in
    quotients_taken (ends c.args.dividend.now) (ends c.args.divisor.now) _ _ _ _ c.args.divisor.now.ordered
    (c.of.ensures ∙ (λ i. record { lo = q i; hi = q i }))
    c.with_below_zero.ensures c.with_above_zero.ensures c.with_zero.ensures
