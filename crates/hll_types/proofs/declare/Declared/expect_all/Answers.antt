use Rattle.std.proofs.Common.{◌≡◌, ◌+◌, [], ◌∷◌, ◌++◌, map, take, sym, ap, subst, ◌∙◌, arith}
use Rattle.std.proofs.lemmas.List.{append-nil, take_more, take_all}
use Rattle.std.proofs.lemmas.Result.{err_from_is_err_and}
use Rattle.hll_tree.specs.declared.tree.Decl.{Decl}
use Rattle.hll_types.specs.Declaring.{IsAfter, start}
use Rattle.hll_types.proofs.ExpectWalk.{lists_behind}
use Rattle.hll_types.proofs.declare.Declared.expect_all.Goals as goal

pub loop-decl-init : goal.loop-decl-init
loop-decl-init c = λ further h. subst (IsAfter c.args.self.now start) (sym (append-nil further)) h

pub returns-in_err-expect_variables : goal.returns-in_err-expect_variables
returns-in_err-expect_variables c =
    let p = err_from_is_err_and c.from_residual.result c.from_residual.ensures.1 in
    rw (p.1, p.2) (λ further h. c.in_err-expect_variables.ensures _ (c.loop-decl.invariant further h))

pub loop-decl-preserved : goal.loop-decl-preserved
loop-decl-preserved c = λ further h.
    let items = c.args.decls.now in
    let i = c.loop-decl.decl-index in
    let x = c.decl-item.result in
    let more : take (i + 1) items ≡ take i items ++ x ∷ [] = take_more items i x c.loop-decl-test.true ∙ ap (λ y. take i items ++ y ∷ []) (sym c.decl-item.is) in
    subst (IsAfter c.expect_variables.new.self start) (sym (lists_behind (λ (decl : Decl). map (λ d. d.name.text) decl.names) further (take i items) (take (i + 1) items) x more)) (c.in_ok-expect_variables.ensures _ (c.loop-decl.invariant further h))

pub returns : goal.returns
returns c = λ further h.
    let items = c.args.decls.now in
    let all : take c.loop-decl.decl-index items ≡ items = take_all c.loop-decl.decl-index items (omega (arith, c.loop-decl-test.false)) in
    rw all at (c.loop-decl.invariant further h)
