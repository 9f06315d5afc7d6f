use Rattle.std.proofs.Common.{refl}
use Rattle.meaning_examples.proofs.WorkedRuns.{starts_again, has_one_run, one_or_two, is_filled, table_has_one_run}
use Rattle.meaning_examples.proofs.examples.texts_have_their_runs.Goals as goal

pub returns : goal.returns
returns c = record {
  counter = starts_again;
  no_other_count = has_one_run;
  one_or_two = one_or_two;
  table = is_filled;
  no_other_table = table_has_one_run;
  one_index = refl;
  two_indices = refl;
}
