use Rattle.expand_api.proofs.SumLemmas.{grows_sum, adds_naturals, adds_signed}
use Rattle.expand_api.proofs.PlaceLemmas.{sum_by_places, sum_from_places}
use Rattle.expand_api.proofs.digits.sums.ripple_carry.Goals as goal

pub returns : goal.returns
returns c = record {
  grown = grows_sum;
  places = sum_by_places;
  by_places = sum_from_places;
  naturals = adds_naturals;
  signed_ones = adds_signed;
}
