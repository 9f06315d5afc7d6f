use Rattle.evidence.proofs.ClaimLemmas.{none_taken, none_ended}
use Rattle.evidence.proofs.refutation.Refutation.new.Goals as goal

pub returns : goal.returns
returns c = record { taken = none_taken c.args.formula c.in_ok-owning.field-0 c.in_ok-owning.ensures.variables c.in_ok-owning.ensures.clauses; ended = none_ended }
