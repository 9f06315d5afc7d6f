use Rattle.std.proofs.Common.{◌≡◌, ◌+◌, [], ◌∷◌, ◌++◌, take, sym, ap, ◌∙◌}
use Rattle.std.proofs.lemmas.List.{take_more}
use Rattle.std.proofs.lemmas.Result.{err_from_is_err_and}
use Rattle.hll_expressions.specs.Scopes.{context}
use Rattle.hll_types.proofs.DimsWalk.{dims_fault}
use Rattle.hll_types.proofs.written.sizes.Goals as goal

pub returns-in_err-size : goal.returns-in_err-size
returns-in_err-size c =
    let dims = c.args.dims.now in
    let i = c.loop-dim.dim-index in
    let e = c.dim-item.result in
    let more : take (i + 1) dims ≡ take i dims ++ e ∷ [] = take_more dims i e c.loop-dim-test.true ∙ ap (λ x. take i dims ++ x ∷ []) (sym c.dim-item.is) in
    let p = err_from_is_err_and c.from_residual.result c.from_residual.ensures.1 in
    rw (p.1, p.2) (dims_fault (context c.args.scope.now) dims i e _ more c.loop-dim.invariant.0 c.in_err-size.ensures)
