use Rattle.std.proofs.Common.{◌≤◌, ap, ◌∙◌, arith}
use Rattle.std.specs.Int.Signed.{mag}
use Rattle.intervals.proofs.AnswerLemmas.{back_lo, back_hi, small_lo, small_hi}
use Rattle.intervals.proofs.interval.Interval.span.Goals as goal

pub overflow_add-result : goal.overflow_add-result
overflow_add-result c =
    let i = c.args.self.now in
    let lower = c.magnitude-lower.ensures ∙ ap mag (back_lo i) in
    let upper = c.magnitude-upper.ensures ∙ ap mag (back_hi i) in
    let few : c.digits.result ≤ 64 = c.digits.ensures.least 64 (omega (arith, small_lo i, small_hi i)) in
    record { fits = omega arith }

pub returns-clause-bound : goal.returns-clause-bound
returns-clause-bound c =
    let i = c.args.self.now in
    let lower = c.magnitude-lower.ensures ∙ ap mag (back_lo i) in
    let upper = c.magnitude-upper.ensures ∙ ap mag (back_hi i) in
    let few : c.digits.result ≤ 64 = c.digits.ensures.least 64 (omega (arith, small_lo i, small_hi i)) in
    omega arith
