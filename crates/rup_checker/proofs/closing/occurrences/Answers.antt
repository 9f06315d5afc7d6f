use Rattle.std.proofs.Common.{◌∙◌}
use Rattle.rup_checker.proofs.OccurrenceLemmas.{lists_none, lists_more}
use Rattle.rup_checker.proofs.closing.occurrences.Goals as goal

pub loop-number-init : goal.loop-number-init
loop-number-init c = record {
  variables = c.in_ok-occurrences.ensures.variables ∙ c.variables.ensures.value;
  lists = lists_none c.args.known.now.clauses c.in_ok-occurrences.occurrences (λ l known. c.in_ok-occurrences.ensures.empty l);
}

pub loop-number-preserved : goal.loop-number-preserved
loop-number-preserved c = record {
  variables = c.in_ok-add_each.ensures.variables ∙ c.loop-number.invariant.variables;
  lists = lists_more c.args.known.now.clauses c.loop-number.number c.clause.result.now c.loop-number.occurrences c.add_each.new.self c.loop-number.invariant.lists c.clause.ensures.value c.in_ok-add_each.ensures;
}
