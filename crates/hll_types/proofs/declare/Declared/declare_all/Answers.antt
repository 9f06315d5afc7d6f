use Rattle.std.proofs.Common.{◌≡◌, ◌+◌, ◌≤◌, [], ◌∷◌, ◌++◌, length, take, sym, ap, subst, ◌∙◌, arith}
use Rattle.std.proofs.lemmas.List.{take_more}
use Rattle.std.proofs.lemmas.Bool.{ltb-true, ltb-false}
use Rattle.hll_expressions.specs.Things.{declared_names, IsAdded}
use Rattle.hll_types.proofs.VariableAnswers.{next_new, next_added, kinds_short, kinds_long}
use Rattle.hll_types.proofs.declare.Declared.declare_all.Goals as goal

pub loop-place-preserved : goal.loop-place-preserved
loop-place-preserved c =
    let ds = c.args.declarators.now in
    let ts = c.args.kinds.now in
    let i = c.loop-place.place in
    let d = c.index-declarators-place.result in
    let t = c.in-Some.ty.now in
    let few = ltb-true i (length ts) (sym c.in-Some.ensures.lookup.0) in
    let more : take (i + 1) ds ≡ take i ds ++ d ∷ [] = take_more ds i d c.loop-place-test.true ∙ ap (λ x. take i ds ++ x ∷ []) (sym c.index-declarators-place.is) in
    let moreover : take (i + 1) ts ≡ take i ts ++ t ∷ [] = take_more ts i t few ∙ ap (λ x. take i ts ++ x ∷ []) (sym c.in-Some.ensures.lookup.1) in
    let before = declared_names c.args.self.now.names in
    let inv = c.loop-place.invariant in (
      λ none. let stood = inv.0 none in
          let added = c.in_ok-declare-in-Some.ensures.declared (next_new before (declared_names c.loop-place.self.names) c.args.input ds ts i d c.loop-place-test.true few more none stood.declared) in
          record {
            declared = next_added before (declared_names c.loop-place.self.names) _ c.args.input ds ts i d t c.loop-place-test.true few more moreover stood.declared (rw c.in_ok-ty-in-Some.ensures at added.declared);
            further = added.further ∙ stood.further;
          },
      c.declare.ensures.others.0 ∙ inv.1,
      c.declare.ensures.others.1 ∙ inv.2,
    )

pub returns-in-None : goal.returns-in-None
returns-in-None c =
    let short : length c.args.kinds.now ≤ c.loop-place.place = ltb-false c.loop-place.place (length c.args.kinds.now) (sym c.in-None.ensures.lookup.0) in
    let same = kinds_short c.args.input c.loop-place.place c.args.declarators.now c.args.kinds.now short in
    let inv = c.loop-place.invariant in
    (λ none. subst (λ xs. IsAdded c.args.self.now.names c.loop-place.self.names (declared_names c.args.self.now.names ++ xs)) same (inv.0 none), inv.1, inv.2)

pub returns : goal.returns
returns c =
    let same = kinds_long c.args.input c.loop-place.place c.args.declarators.now c.args.kinds.now (omega (arith, c.loop-place-test.false)) in
    let inv = c.loop-place.invariant in
    (λ none. subst (λ xs. IsAdded c.args.self.now.names c.loop-place.self.names (declared_names c.args.self.now.names ++ xs)) same (inv.0 none), inv.1, inv.2)
