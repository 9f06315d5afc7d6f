use Rattle.std.proofs.Common.{◌≡◌, ◌+◌, [], ◌∷◌, ◌++◌, length, take, sym, ap, ◌∙◌, arith}
use Rattle.std.proofs.lemmas.List.{take_more}
use Rattle.std.proofs.lemmas.Result.{err_from_is_err_and}
use Rattle.hll_meaning.specs.Declarations.{texts}
use Rattle.hll_meaning.specs.StaticRules.{fresh_name, taken_by}
use Rattle.hll_expressions.specs.Things.{declared_names}
use Rattle.std.proofs.lemmas.List.{length-take-le}
use Rattle.hll_types.proofs.Coding.{codes_more, elements_fault, elements_more, elements_taken}
use Rattle.hll_types.proofs.FreshNames.{new_name}
use Rattle.hll_expressions.proofs.FirstFaults.{fault_same}
use Rattle.hll_types.proofs.declare.Declared.elements.Goals as goal

pub returns-in_err-fresh : goal.returns-in_err-fresh
returns-in_err-fresh c =
    let names = c.args.names.now in
    let i = c.loop-place.place in
    let e = c.index-names-place.result in
    let before = declared_names c.args.self.now.names in
    let inv = c.loop-place.invariant in
    let more : take (i + 1) names ≡ take i names ++ e ∷ [] = take_more names i e c.loop-place-test.true ∙ ap (λ x. take i names ++ x ∷ []) (sym c.index-names-place.is) in
    let taken = elements_taken before (declared_names c.loop-place.self.names) c.args.sort.now.text (take i names) inv.1.declared in
    let p = err_from_is_err_and c.from_residual.result c.from_residual.ensures.1 in
    rw (p.1, p.2) (elements_fault (taken_by before) names i e _ more inv.0
    (fault_same (fresh_name (taken_by (declared_names c.loop-place.self.names)) e) (fresh_name (taken_by before ++ texts (take i names)) e) _ (ap (λ ns. fresh_name ns e) taken) c.in_err-fresh.ensures))

pub loop-place-preserved : goal.loop-place-preserved
loop-place-preserved c =
    let names = c.args.names.now in
    let i = c.loop-place.place in
    let e = c.index-names-place.result in
    let before = declared_names c.args.self.now.names in
    let inv = c.loop-place.invariant in
    let more : take (i + 1) names ≡ take i names ++ e ∷ [] = take_more names i e c.loop-place-test.true ∙ ap (λ x. take i names ++ x ∷ []) (sym c.index-names-place.is) in
    let taken = elements_taken before (declared_names c.loop-place.self.names) c.args.sort.now.text (take i names) inv.1.declared in
    let count : i ≡ length (take i names) = sym (length-take-le i names (omega (arith, c.loop-place-test.true))) in
    let added = c.in_ok-declare.ensures.declared (new_name (taken_by (declared_names c.loop-place.self.names)) e c.in_ok-fresh.ensures) in (
      elements_more (taken_by before) (take i names) (take (i + 1) names) e more inv.0 (ap (λ ns. fresh_name ns e) (sym taken) ∙ c.in_ok-fresh.ensures),
      record {
        declared = codes_more before c.args.sort.now.text (take i names) (take (i + 1) names) e c.in_ok-root.root i (declared_names c.loop-place.self.names) _ more (c.in_ok-root.ensures ∙ c.bytes.ensures) count inv.1.declared added.declared;
        further = added.further ∙ inv.1.further;
      },
      c.declare.ensures.others.0 ∙ inv.2,
      c.declare.ensures.others.1 ∙ inv.3,
    )
