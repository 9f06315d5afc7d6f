use Rattle.std.proofs.Common.{negsuc, sym, ap, ◌∙◌, [], ◌∷◌, arith}
use Rattle.std.proofs.lemmas.Int.{ints}
use Rattle.std.specs.Int.{int_min}
use Rattle.intervals.specs.Answers.{ends}
use Rattle.intervals.specs.Hulls.{extended, reached}
use Rattle.intervals.specs.Rules.{end_quotients}
use Rattle.intervals.proofs.AnswerLemmas.{back, back_lo, back_hi, bounded}
use Rattle.intervals.proofs.DivisionLemmas.{part_below}
use Rattle.intervals.proofs.hull.Hull.with_below_zero.Goals as goal

pub returns-then-divisor-lt0 : goal.returns-then-divisor-lt0
returns-then-divisor-lt0 c =
    let a = ends c.args.dividend.now in
    let v = c.args.divisor.now in
    let bounds = bounded v in
    let near = back c.min.result (record { sfits = c.min.type_inv }) ∙ c.min.ensures.value ∙ ap (λ z. int_min z (negsuc 0)) (back_hi v) in
    c.with_quotients-then-divisor-lt0.ensures
    ∙ (λ i. extended (c.with_quotients.ensures i) (end_quotients a (near i ∷ [])))
    ∙ (λ i. extended (extended (reached c.args.self) (end_quotients a (back_lo v i ∷ []))) (end_quotients a (int_min v.hi (negsuc 0) ∷ [])))
    ∙ sym (ap (λ ds. extended (reached c.args.self) (end_quotients a ds)) (part_below (ends v) (omega (arith, ints))))
