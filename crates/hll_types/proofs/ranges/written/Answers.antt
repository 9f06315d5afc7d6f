use Rattle.std.proofs.Common.{◌++◌, sym, ap, inl, inr}
use Rattle.hll_meaning.specs.Nodes.{nodes, type_nodes}
use Rattle.hll_expressions.specs.Scopes.{context}
use Rattle.hll_types.proofs.RangeWalk.{fails_first, nothing_walked, walked_as, walked_behind}
use Rattle.hll_types.proofs.ranges.written.Goals as goal

pub returns-in-Bool : goal.returns-in-Bool
returns-in-Bool c = nothing_walked c.args.ranges.now (ap (λ t. type_nodes t (context c.args.scope.now)) c.in-Bool.is)

pub returns-in-Named : goal.returns-in-Named
returns-in-Named c = nothing_walked c.args.ranges.now (ap (λ t. type_nodes t (context c.args.scope.now)) c.in-Named.is)

pub returns-in_err-expression-in-Bounds : goal.returns-in_err-expression-in-Bounds
returns-in_err-expression-in-Bounds c =
    let k = context c.args.scope.now in
    let a = nodes c.in-Bounds.lowest k in
    let b = nodes c.in-Bounds.greatest k in
    walked_as _ _ (a ++ b) _ c.from_residual.result (ap (λ t. type_nodes t k) (sym c.in-Bounds.is)) (fails_first c.args.ranges.now c.expression.new.ranges a b c.from_residual.result c.in_err-expression-in-Bounds.field-0.0 c.from_residual.ensures.1 c.in_err-expression-in-Bounds.ensures)

pub returns-in_ok-expression-in-Bounds : goal.returns-in_ok-expression-in-Bounds
returns-in_ok-expression-in-Bounds c =
    let k = context c.args.scope.now in
    let a = nodes c.in-Bounds.lowest k in
    let b = nodes c.in-Bounds.greatest k in
    let r = c.expression-in-Bounds.result in
    walked_as _ _ (a ++ b) _ r (ap (λ t. type_nodes t k) (sym c.in-Bounds.is)) (walked_behind _ a b r c.in_ok-expression-in-Bounds.ensures c.expression-in-Bounds.ensures)

pub returns-in-Signed : goal.returns-in-Signed
returns-in-Signed c =
    let k = context c.args.scope.now in
    let ns = nodes c.in-Signed.digits k in
    let r = c.expression-in-Signed.result in
    elim c.in-Signed.is [
      | inl is ↦ walked_as _ _ ns _ r (ap (λ t. type_nodes t k) (sym is)) c.expression-in-Signed.ensures
      | inr is ↦ walked_as _ _ ns _ r (ap (λ t. type_nodes t k) (sym is)) c.expression-in-Signed.ensures
    ]
