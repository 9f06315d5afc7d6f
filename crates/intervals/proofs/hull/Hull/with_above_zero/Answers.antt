use Rattle.std.proofs.Common.{pos, sym, ap, ◌∙◌, [], ◌∷◌, arith}
use Rattle.std.proofs.lemmas.Int.{ints}
use Rattle.std.specs.Int.{int_max}
use Rattle.intervals.specs.Answers.{ends}
use Rattle.intervals.specs.Hulls.{extended, reached}
use Rattle.intervals.specs.Rules.{end_quotients}
use Rattle.intervals.proofs.AnswerLemmas.{back, back_lo, back_hi, bounded}
use Rattle.intervals.proofs.DivisionLemmas.{part_above}
use Rattle.intervals.proofs.hull.Hull.with_above_zero.Goals as goal

pub returns-then-divisor-gt0 : goal.returns-then-divisor-gt0
returns-then-divisor-gt0 c =
    let a = ends c.args.dividend.now in
    let v = c.args.divisor.now in
    let bounds = bounded v in
    let near = back c.max.result (record { sfits = c.max.type_inv }) ∙ c.max.ensures.value ∙ ap (λ z. int_max z (pos 1)) (back_lo v) in
    c.with_quotients-then-divisor-gt0.ensures
    ∙ (λ i. extended (c.with_quotients.ensures i) (end_quotients a (back_hi v i ∷ [])))
    ∙ (λ i. extended (extended (reached c.args.self) (end_quotients a (near i ∷ []))) (end_quotients a (v.hi ∷ [])))
    ∙ sym (ap (λ ds. extended (reached c.args.self) (end_quotients a ds)) (part_above (ends v) (omega (arith, ints))))
