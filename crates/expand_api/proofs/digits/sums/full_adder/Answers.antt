use Rattle.expand_api.proofs.SumLemmas.{adds_digits}
use Rattle.expand_api.proofs.digits.sums.full_adder.Goals as goal

pub returns : goal.returns
returns c = adds_digits
