use Rattle.std.proofs.Common.{◌≡◌, ◌+◌, [], ◌∷◌, ◌++◌, take, sym, ap, ◌∙◌, arith}
use Rattle.std.proofs.lemmas.List.{take_more, take_all}
use Rattle.std.proofs.lemmas.Result.{err_from_is_err_and}
use Rattle.hll_meaning.specs.Types.{kind_of}
use Rattle.hll_types.proofs.VariablesWalk.{variables_fault, variables_more, names_more, kinds_more, cells_more}
use Rattle.hll_types.proofs.declare.Declared.kinds.Goals as goal

pub returns-in_err-ty : goal.returns-in_err-ty
returns-in_err-ty c =
    let ds = c.args.declarators.now in
    let i = c.loop-declarator.declarator-index in
    let d = c.declarator-item.result in
    let more : take (i + 1) ds ≡ take i ds ++ d ∷ [] = take_more ds i d c.loop-declarator-test.true ∙ ap (λ x. take i ds ++ x ∷ []) (sym c.declarator-item.is) in
    let p = err_from_is_err_and c.from_residual.result c.from_residual.ensures.1 in
    rw (p.1, p.2) (λ names further h.
    let inv = c.loop-declarator.invariant names further h in
    variables_fault names further (kind_of c.args.each.now) c.args.self.now.cells ds i d c.loop-declarator.before c.loop-declarator.total _ more inv.1 inv.3 inv.0 (c.in_err-ty.ensures names further h))

pub loop-declarator-preserved : goal.loop-declarator-preserved
loop-declarator-preserved c = λ names further h.
    let ds = c.args.declarators.now in
    let i = c.loop-declarator.declarator-index in
    let d = c.declarator-item.result in
    let each = kind_of c.args.each.now in
    let more : take (i + 1) ds ≡ take i ds ++ d ∷ [] = take_more ds i d c.loop-declarator-test.true ∙ ap (λ x. take i ds ++ x ∷ []) (sym c.declarator-item.is) in
    let inv = c.loop-declarator.invariant names further h in
    let own = c.in_ok-ty.ensures names further h in (
      variables_more names further each c.args.self.now.cells (take i ds) (take (i + 1) ds) d c.loop-declarator.before c.loop-declarator.total more inv.1 inv.3 inv.0 own.0,
      names_more (take i ds) (take (i + 1) ds) d c.loop-declarator.before _ more own.1 inv.1,
      kinds_more names each (take i ds) (take (i + 1) ds) d c.loop-declarator.kinds.items _ c.in_ok-ty.ty more c.in_ok-push.ensures.pushed inv.2 own.2,
      cells_more names further each c.args.self.now.cells (take i ds) (take (i + 1) ds) d c.loop-declarator.total c.in_ok-ty.more more inv.3 own.3,
    )

pub returns : goal.returns
returns c = λ names further h.
    let ds = c.args.declarators.now in
    let all : take c.loop-declarator.declarator-index ds ≡ ds = take_all c.loop-declarator.declarator-index ds (omega (arith, c.loop-declarator-test.false)) in
    let inv = rw all at (c.loop-declarator.invariant names further h) in
    (inv.0, inv.2, inv.3)
