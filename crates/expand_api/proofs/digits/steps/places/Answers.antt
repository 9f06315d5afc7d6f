use Rattle.expand_api.proofs.StepLemmas.{place_choice, has_places}
use Rattle.expand_api.proofs.digits.steps.places.Goals as goal

pub returns : goal.returns
returns c = record { choices = place_choice; lists = has_places }
