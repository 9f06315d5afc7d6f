use Rattle.std.proofs.Common.{arith}
use Rattle.std.proofs.lemmas.Int.{ints}
use Rattle.std.specs.Int.Signed.{yes_non_neg}
use Rattle.intervals.specs.Answers.{ends}
use Rattle.intervals.proofs.AnswerLemmas.{bounded}
use Rattle.hll_expressions.proofs.DomainLemmas.{count_so}
use Rattle.hll_expressions.proofs.numbers.count.Goals as goal

pub overflow_cast-result : goal.overflow_cast-result
overflow_cast-result c =
    let b = bounded c.args.range.now in
    (yes_non_neg (omega (arith, ints)), omega (arith, ints))

pub returns : goal.returns
returns c =
    let r = c.args.range.now in
    let b = bounded r in
    count_so (ends r) _ r.ordered (omega (arith, ints))
