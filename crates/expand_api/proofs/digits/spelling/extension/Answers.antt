use Rattle.expand_api.proofs.ExtensionLemmas.{keeps_value, cuts_value}
use Rattle.expand_api.proofs.digits.spelling.extension.Goals as goal

pub returns : goal.returns
returns c = record { longer = keeps_value; shorter = cuts_value }
