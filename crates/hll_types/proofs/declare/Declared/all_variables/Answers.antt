use Rattle.std.proofs.Common.{◌≡◌, ◌+◌, [], ◌∷◌, ◌++◌, map, fold, take, drop, sym, ap, subst, ◌∙◌, arith}
use Rattle.std.proofs.lemmas.List.{take_more, take_all}
use Rattle.std.proofs.lemmas.Result.{err_from_is_err_and}
use Rattle.hll_meaning.specs.Declarations.{variables_of}
use Rattle.hll_meaning.specs.StaticRules.{Pass1, pass1_item}
use Rattle.hll_types.specs.Declaring.{IsAfter}
use Rattle.hll_types.proofs.PassWalk.{fault_of_item, items_more, items_split, pass_more}
use Rattle.hll_types.proofs.declare.Declared.all_variables.Goals as goal

pub returns-in_err-variables : goal.returns-in_err-variables
returns-in_err-variables c =
    let decls = c.args.decls.now in
    let i = c.loop-decl.decl-index in
    let x = c.decl-item.result in
    let made = variables_of c.args.input in
    let more : take (i + 1) decls ≡ take i decls ++ x ∷ [] = take_more decls i x c.loop-decl-test.true ∙ ap (λ y. take i decls ++ y ∷ []) (sym c.decl-item.is) in
    let p = err_from_is_err_and c.from_residual.result c.from_residual.ensures.1 in
    rw (p.1, p.2) (λ q further h.
    let inv = c.loop-decl.invariant q further h in
    fault_of_item further q (map made (take i decls)) (map made (drop (i + 1) decls)) (map made decls) (made x) _ (items_split made decls i x more) inv.faultless
    (c.in_err-variables.ensures (fold (pass1_item further) q (map made (take i decls))) further inv))

pub loop-decl-preserved : goal.loop-decl-preserved
loop-decl-preserved c = λ q further h.
    let decls = c.args.decls.now in
    let i = c.loop-decl.decl-index in
    let x = c.decl-item.result in
    let made = variables_of c.args.input in
    let more : take (i + 1) decls ≡ take i decls ++ x ∷ [] = take_more decls i x c.loop-decl-test.true ∙ ap (λ y. take i decls ++ y ∷ []) (sym c.decl-item.is) in
    let inv = c.loop-decl.invariant q further h in
    subst (λ (r : Pass1). IsAfter c.variables.new.self r further)
    (sym (pass_more further q (map made (take i decls)) (map made (take (i + 1) decls)) (made x) (items_more made (take i decls) (take (i + 1) decls) x more)))
    (c.in_ok-variables.ensures (fold (pass1_item further) q (map made (take i decls))) further inv)

pub returns : goal.returns
returns c = λ q further h.
    let decls = c.args.decls.now in
    let all : take c.loop-decl.decl-index decls ≡ decls = take_all c.loop-decl.decl-index decls (omega (arith, c.loop-decl-test.false)) in
    rw all at (c.loop-decl.invariant q further h)
