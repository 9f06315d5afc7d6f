use Rattle.std.proofs.Common.{◌∙◌, [], ◌∷◌}
use Rattle.intervals.specs.Hulls.{extended, reached}
use Rattle.intervals.specs.Numbers.{quotient}
use Rattle.intervals.proofs.DivisionLemmas.{can_divide_hi, passed_lo, passed_hi}
use Rattle.intervals.proofs.hull.Hull.with_quotients.Goals as goal

pub nonzero_div-dividend-2 : goal.nonzero_div-dividend-2
nonzero_div-dividend-2 c = can_divide_hi c.args.dividend.now c.args.divisor c.ranges.divisor c.requires

pub returns : goal.returns
returns c =
    let a = c.args.dividend.now in
    let d = c.args.divisor in
    c.with-2.ensures
    ∙ (λ i. extended (c.with.ensures i) (passed_hi a d c.ranges.divisor i ∷ []))
    ∙ (λ i. extended (extended (reached c.args.self) (passed_lo a d c.ranges.divisor i ∷ [])) (quotient a.hi d ∷ []))
