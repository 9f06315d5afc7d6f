use Rattle.hll_expressions.specs.Things.{said_of}
use Rattle.hll_expressions.proofs.ThingNames.{keys_distinct}
use Rattle.hll_expressions.proofs.things.Things.iter.Goals as goal

pub returns-clause-distinct : goal.returns-clause-distinct
returns-clause-distinct c = keys_distinct (λ k. k.items) said_of c.args.self.now.declared.entries c.iter.ensures.unique
