use Rattle.expand_api.proofs.StepLemmas.{grows_comparisons, goes_up, goes_through_rows, goes_through_dividend, goes_through_reading}
use Rattle.expand_api.proofs.digits.steps.digit_by_digit.Goals as goal

pub returns : goal.returns
returns c = record {
  comparisons = grows_comparisons;
  fronts = goes_up;
  products = goes_through_rows;
  quotients = goes_through_dividend;
  readings = goes_through_reading;
}
