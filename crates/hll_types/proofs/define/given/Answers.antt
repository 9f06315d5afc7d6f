use Rattle.hll_meaning.specs.Types.{kind_of}
use Rattle.hll_expressions.specs.Scopes.{context}
use Rattle.hll_types.proofs.GivenParts.{of_alone, of_both}
use Rattle.hll_types.proofs.define.given.Goals as goal

pub returns-in-Both : goal.returns-in-Both
returns-in-Both c = of_both (context c.args.scope.now) (kind_of c.args.kind.now) c.in-Both.first c.in-Both.next c.args.part.now c.given_both.result c.in-Both.is c.given_both.ensures

pub returns-in-Value : goal.returns-in-Value
returns-in-Value c = of_alone (context c.args.scope.now) (kind_of c.args.kind.now) c.in-Value.expr c.args.part.now c.given_alone.result c.in-Value.is c.given_alone.ensures
