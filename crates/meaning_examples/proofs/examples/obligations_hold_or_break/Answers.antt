use Rattle.meaning_examples.proofs.WorkedRuns.{constraints_count, broken_under_constraints, broken_at_once, broken_at_second, only_the_last}
use Rattle.meaning_examples.proofs.examples.obligations_hold_or_break.Goals as goal

pub returns : goal.returns
returns c = record {
  hold = constraints_count;
  under_constraints = broken_under_constraints;
  one_instant = broken_at_once;
  two_instants = broken_at_second;
  at_the_last = only_the_last;
}
