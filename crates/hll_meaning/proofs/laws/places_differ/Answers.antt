use Rattle.hll_meaning.proofs.PlacedTexts.{differ, ranges_differ}
use Rattle.hll_meaning.proofs.laws.places_differ.Goals as goal

pub returns : goal.returns
returns c = record { expressions = differ; ranges = ranges_differ }
