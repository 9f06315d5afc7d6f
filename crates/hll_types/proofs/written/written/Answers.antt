use Rattle.std.proofs.Common.{◌∙◌, subst}
use Rattle.hll_meaning.specs.Judging.{judged}
use Rattle.hll_meaning.proofs.KindForms.{kind_of_int}
use Rattle.hll_expressions.specs.Described.{Describes}
use Rattle.hll_expressions.specs.Scopes.{context}
use Rattle.hll_types.proofs.written.written.Goals as goal

pub returns-in_ok-bounds-in-Bounds : goal.returns-in_ok-bounds-in-Bounds
returns-in_ok-bounds-in-Bounds c =
    let place = context c.args.scope.now in
    let a = judged c.in-Bounds.lowest place in
    let b = judged c.in-Bounds.greatest place in
    let low = subst (λ needs. Describes needs c.in_ok-lowest-in-Bounds.lowest a) c.requires c.in_ok-lowest-in-Bounds.ensures in
    let high = subst (λ needs. Describes needs c.in_ok-greatest-in-Bounds.greatest b) c.requires c.in_ok-greatest-in-Bounds.ensures in
    let k = c.in_ok-bounds-in-Bounds.ensures a b low high in
    rw c.in-Bounds.is (k.0, kind_of_int c.in_ok-bounds-in-Bounds.field-0 ∙ k.1)
