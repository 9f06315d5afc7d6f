use Rattle.expand_api.proofs.SpellingLemmas.{keeps_number, keeps_code}
use Rattle.expand_api.proofs.ExtensionLemmas.{cuts_code}
use Rattle.expand_api.proofs.digits.spelling.codes.Goals as goal

pub returns : goal.returns
returns c = record { numbers = keeps_number; back = keeps_code; cut = cuts_code }
