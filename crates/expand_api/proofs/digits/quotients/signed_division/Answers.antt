use Rattle.expand_api.proofs.QuotientLemmas.{divides_signed}
use Rattle.expand_api.proofs.digits.quotients.signed_division.Goals as goal

pub returns : goal.returns
returns c = divides_signed
