use Rattle.hll_expressions.specs.Scopes.{context}
use Rattle.hll_types.proofs.StandingNames.{kind_written}
use Rattle.hll_types.proofs.declare.Declared.written.Goals as goal

pub returns : goal.returns
returns c = λ names further h. kind_written c.args.self.now.names names further h c.args.text.now (context c.scope.result) c.scope.ensures c.written.result c.written.ensures
