use Rattle.intervals.proofs.Soundness.{sum_sound, difference_sound, product_sound, smaller_sound, greater_sound, hull_sound, negation_sound, absolute_sound, multiple_sound, total_sound, ratio_sound, modulus_sound}
use Rattle.intervals.proofs.laws.rules_are_sound.Goals as goal

pub returns : goal.returns
returns c = record {
  sums = sum_sound;
  differences = difference_sound;
  products = product_sound;
  quotients = ratio_sound;
  remainders = modulus_sound;
  smaller_ones = smaller_sound;
  greater_ones = greater_sound;
  either = hull_sound;
  negations = negation_sound;
  sizes = absolute_sound;
  multiples = multiple_sound;
  totals = total_sound;
}
