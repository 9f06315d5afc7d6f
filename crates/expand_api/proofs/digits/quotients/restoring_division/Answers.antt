use Rattle.expand_api.proofs.QuotientLemmas.{divides_naturals}
use Rattle.expand_api.proofs.digits.quotients.restoring_division.Goals as goal

pub returns : goal.returns
returns c = divides_naturals
