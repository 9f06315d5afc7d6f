use Rattle.std.proofs.Common.{arith}
use Rattle.std.proofs.lemmas.Int.{ints}
use Rattle.intervals.proofs.AnswerLemmas.{answered, bounded}
use Rattle.intervals.proofs.interval.Interval.add.Goals as goal

pub returns : goal.returns
returns c =
    let a = bounded c.args.self.now in
    let b = bounded c.args.other.now in
    answered c.new.result _ _ (omega (arith, ints)) (omega (arith, ints)) (omega (arith, ints)) c.new.ensures
