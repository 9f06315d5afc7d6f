use Rattle.std.proofs.Common.{◌≡◌, ◌+◌, [], ◌∷◌, ◌++◌, take, sym, ap, subst, ◌∙◌, arith}
use Rattle.std.proofs.lemmas.List.{append-nil, take_more, take_all}
use Rattle.std.proofs.lemmas.Result.{err_from_is_err_and}
use Rattle.hll_meaning.specs.StaticRules.{elements_of}
use Rattle.hll_types.specs.Declaring.{IsAfter, start}
use Rattle.hll_types.proofs.ExpectWalk.{lists_behind}
use Rattle.hll_types.proofs.declare.Declared.expect_types.Goals as goal

pub loop-item-init : goal.loop-item-init
loop-item-init c = λ further h. subst (IsAfter c.args.self.now start) (sym (append-nil further)) h

pub returns-in_err-expect_elements : goal.returns-in_err-expect_elements
returns-in_err-expect_elements c =
    let p = err_from_is_err_and c.from_residual.result c.from_residual.ensures.1 in
    rw (p.1, p.2) (λ further h. c.in_err-expect_elements.ensures _ (c.loop-item.invariant further h))

pub loop-item-preserved : goal.loop-item-preserved
loop-item-preserved c = λ further h.
    let items = c.args.items.now in
    let i = c.loop-item.item-index in
    let x = c.item-item.result in
    let more : take (i + 1) items ≡ take i items ++ x ∷ [] = take_more items i x c.loop-item-test.true ∙ ap (λ y. take i items ++ y ∷ []) (sym c.item-item.is) in
    subst (IsAfter c.expect_elements.new.self start) (sym (lists_behind elements_of further (take i items) (take (i + 1) items) x more)) (c.in_ok-expect_elements.ensures _ (c.loop-item.invariant further h))

pub returns : goal.returns
returns c = λ further h.
    let items = c.args.items.now in
    let all : take c.loop-item.item-index items ≡ items = take_all c.loop-item.item-index items (omega (arith, c.loop-item-test.false)) in
    rw all at (c.loop-item.invariant further h)
