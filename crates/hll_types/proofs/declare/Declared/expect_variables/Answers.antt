use Rattle.std.proofs.Common.{◌≡◌, ◌+◌, [], ◌∷◌, ◌++◌, map, take, refl, sym, ap, subst, ◌∙◌, arith}
use Rattle.std.proofs.lemmas.List.{append-nil, take_more, take_all}
use Rattle.hll_tree.specs.declared.tree.Declarator.{Declarator}
use Rattle.hll_meaning.specs.Names.{later, under}
use Rattle.hll_types.specs.Declaring.{IsAfter, start}
use Rattle.hll_expressions.specs.Things.{names_further}
use Rattle.hll_types.proofs.ExpectWalk.{expected_more, names_behind}
use Rattle.hll_types.proofs.declare.Declared.expect_variables.Goals as goal

pub loop-declarator-init : goal.loop-declarator-init
loop-declarator-init c = λ further h. subst (IsAfter c.args.self.now start) (sym (append-nil further)) h

pub loop-declarator-preserved : goal.loop-declarator-preserved
loop-declarator-preserved c = λ further h.
    let names = c.as_slice-declarator-items.result.now in
    let i = c.loop-declarator.declarator-index in
    let n = c.declarator-item.result in
    let more : take (i + 1) names ≡ take i names ++ n ∷ [] = take_more names i n c.loop-declarator-test.true ∙ ap (λ x. take i names ++ x ∷ []) (sym c.declarator-item.is) in
    expected_more c.loop-declarator.self _ (further ++ map (λ (m : Declarator). m.name.text) (take i names)) (further ++ map (λ (m : Declarator). m.name.text) (take (i + 1) names)) n.name.text
    (names_behind (λ (m : Declarator). m.name.text) further (take i names) (take (i + 1) names) n more) (c.loop-declarator.invariant further h) c.in_ok-expect.ensures.declared
    (λ q. c.in_ok-expect.ensures.further q ∙ ap (λ m. under q (names_further c.loop-declarator.self.names ++ (m, later) ∷ [])) c.bytes.ensures) refl refl

pub returns : goal.returns
returns c = λ further h.
    let names = c.as_slice-declarator-items.result.now in
    let all : take c.loop-declarator.declarator-index names ≡ names = take_all c.loop-declarator.declarator-index names (omega (arith, c.loop-declarator-test.false)) in
    rw (all ∙ c.as_slice-declarator-items.ensures) at (c.loop-declarator.invariant further h)
