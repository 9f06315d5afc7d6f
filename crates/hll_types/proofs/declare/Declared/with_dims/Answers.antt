use Rattle.hll_meaning.specs.Types.{kind_of}
use Rattle.hll_expressions.specs.Scopes.{context}
use Rattle.hll_types.proofs.StandingNames.{kind_with_dims}
use Rattle.hll_types.proofs.declare.Declared.with_dims.Goals as goal

pub returns : goal.returns
returns c = λ names further h. kind_with_dims c.args.self.now.names names further h c.args.dims.now (kind_of c.args.each) (context c.scope.result) c.scope.ensures c.with_dims.result c.with_dims.ensures
