use Rattle.expand_api.proofs.CongruenceLemmas.{exact}
use Rattle.expand_api.proofs.ValueLemmas.{has_sign, has_ends}
use Rattle.expand_api.proofs.digits.spelling.two_complement.Goals as goal

pub returns : goal.returns
returns c = record { sign = has_sign; ends = has_ends; exact = exact }
