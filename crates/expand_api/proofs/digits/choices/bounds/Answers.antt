use Rattle.expand_api.proofs.BoundLemmas.{takes_extremes, tests_interval, fits_interval}
use Rattle.expand_api.proofs.digits.choices.bounds.Goals as goal

pub returns : goal.returns
returns c = record { extremes = takes_extremes; within = tests_interval; fitted = fits_interval }
