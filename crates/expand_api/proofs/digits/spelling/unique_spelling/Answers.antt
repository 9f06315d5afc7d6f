use Rattle.expand_api.proofs.ValueLemmas.{has_range}
use Rattle.expand_api.proofs.SpellingLemmas.{is_unique, spells_natural, spells_signed, is_spelled}
use Rattle.expand_api.proofs.digits.spelling.unique_spelling.Goals as goal

pub returns : goal.returns
returns c = record {
  range = has_range;
  unique = is_unique;
  naturals = spells_natural;
  signed_ones = spells_signed;
  lists = is_spelled;
}
