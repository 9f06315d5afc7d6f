use Rattle.expand_api.proofs.ProductLemmas.{multiplies_naturals, multiplies}
use Rattle.expand_api.proofs.digits.products.multiplication.Goals as goal

pub returns : goal.returns
returns c = record { naturals = multiplies_naturals; signed_ones = multiplies }
