use Rattle.std.proofs.Common.{◌≡◌, ◌+◌, [], ◌∷◌, ◌++◌, map, take, refl, sym, ap, subst, ◌∙◌, arith}
use Rattle.std.proofs.lemmas.List.{append-nil, take_more, take_all}
use Rattle.hll_tree.specs.declared.tree.Name.{Name}
use Rattle.hll_meaning.specs.Names.{later, under}
use Rattle.hll_types.specs.Declaring.{IsAfter, start}
use Rattle.hll_expressions.specs.Things.{names_further}
use Rattle.hll_types.proofs.ExpectWalk.{expected_more, names_behind}
use Rattle.hll_types.proofs.declare.Declared.expect_names.Goals as goal

pub loop-name-init : goal.loop-name-init
loop-name-init c = λ further h. subst (IsAfter c.args.self.now start) (sym (append-nil further)) h

pub loop-name-preserved : goal.loop-name-preserved
loop-name-preserved c = λ further h.
    let names = c.args.names.now in
    let i = c.loop-name.name-index in
    let n = c.name-item.result in
    let more : take (i + 1) names ≡ take i names ++ n ∷ [] = take_more names i n c.loop-name-test.true ∙ ap (λ x. take i names ++ x ∷ []) (sym c.name-item.is) in
    expected_more c.loop-name.self _ (further ++ map (λ (m : Name). m.text) (take i names)) (further ++ map (λ (m : Name). m.text) (take (i + 1) names)) n.text
    (names_behind (λ (m : Name). m.text) further (take i names) (take (i + 1) names) n more) (c.loop-name.invariant further h) c.in_ok-expect.ensures.declared
    (λ q. c.in_ok-expect.ensures.further q ∙ ap (λ m. under q (names_further c.loop-name.self.names ++ (m, later) ∷ [])) c.bytes.ensures) refl refl

pub returns : goal.returns
returns c = λ further h.
    let names = c.args.names.now in
    let all : take c.loop-name.name-index names ≡ names = take_all c.loop-name.name-index names (omega (arith, c.loop-name-test.false)) in
    rw all at (c.loop-name.invariant further h)
