use Rattle.expand_api.proofs.DifferenceLemmas.{subtracts_naturals, subtracts}
use Rattle.expand_api.proofs.digits.sums.difference.Goals as goal

pub returns : goal.returns
returns c = record { naturals = subtracts_naturals; signed_ones = subtracts }
