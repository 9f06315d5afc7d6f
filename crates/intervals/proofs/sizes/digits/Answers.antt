use Rattle.intervals.proofs.DigitLemmas.{digits_left}
use Rattle.intervals.proofs.sizes.digits.Goals as goal

pub returns : goal.returns
returns c = digits_left c.args.number c.ranges.number.fits
