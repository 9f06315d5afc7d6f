use Rattle.std.proofs.Common.{arith}
use Rattle.std.proofs.lemmas.Int.{ints}
use Rattle.intervals.proofs.AnswerLemmas.{bounded}
use Rattle.intervals.proofs.interval.Interval.width.Goals as goal

pub returns-clause-bound : goal.returns-clause-bound
returns-clause-bound c = let b = bounded c.args.self.now in c.digits.ensures.least 64 (omega (arith, ints))
