use Rattle.std.proofs.Common.{◌≡◌, ◌+◌, [], ◌∷◌, ◌++◌, take, sym, ap, subst, ◌∙◌, arith}
use Rattle.std.specs.List.{flat_map}
use Rattle.std.proofs.lemmas.List.{take_more, take_all}
use Rattle.std.proofs.lemmas.Result.{err_from_is_err_and}
use Rattle.hll_meaning.specs.StaticRules.{Pass1, pass1_faults, early}
use Rattle.hll_expressions.specs.Answers.{IsFaultAt}
use Rattle.hll_types.specs.Declaring.{IsAfter, early_in_section, start}
use Rattle.hll_types.proofs.ExpectWalk.{lists_behind}
use Rattle.hll_types.proofs.PassWalk.{early_sections, fault_of_section, sections_more}
use Rattle.hll_types.proofs.declare.declare.Goals as goal

pub returns-in_err-expect : goal.returns-in_err-expect
returns-in_err-expect c =
    let p = err_from_is_err_and c.from_residual.result c.from_residual.ensures.1 in
    rw (p.1, p.2) (subst (IsFaultAt (pass1_faults c.args.model.now)) (sym (c.in_err-expect.ensures _ c.loop-section.invariant)) tt)

pub loop-section-preserved : goal.loop-section-preserved
loop-section-preserved c =
    let slice = c.as_slice-section-items.result.now in
    let i = c.loop-section.section-index in
    let x = c.section-item.result in
    let more : take (i + 1) slice ≡ take i slice ++ x ∷ [] = take_more slice i x c.loop-section-test.true ∙ ap (λ y. take i slice ++ y ∷ []) (sym c.section-item.is) in
    subst (IsAfter c.expect.new.self start) (sym (lists_behind early_in_section [] (take i slice) (take (i + 1) slice) x more)) (c.in_ok-expect.ensures _ c.loop-section.invariant)

pub loop-section-2-init : goal.loop-section-2-init
loop-section-2-init c =
    let slice = c.as_slice-section-items.result.now in
    let all : take c.loop-section.section-index slice ≡ slice = take_all c.loop-section.section-index slice (omega (arith, c.loop-section-test.false)) in
    subst (IsAfter c.loop-section.declared start) (ap (flat_map early_in_section) (all ∙ c.as_slice-section-items.ensures) ∙ early_sections c.args.model.now.sections) c.loop-section.invariant

pub loop-section-2-preserved : goal.loop-section-2-preserved
loop-section-2-preserved c =
    let slice = c.as_slice-section-items-2.result.now in
    let i = c.loop-section-2.section-index in
    let x = c.section-item-in-loop-section-2.result in
    let further = early c.args.model.now in
    let more : take (i + 1) slice ≡ take i slice ++ x ∷ [] = take_more slice i x c.loop-section-2-test.true ∙ ap (λ y. take i slice ++ y ∷ []) (sym c.section-item-in-loop-section-2.is) in
    subst (λ (r : Pass1). IsAfter c.section.new.self r further) (sym (sections_more further start (take i slice) (take (i + 1) slice) x more)) (c.in_ok-section.ensures _ further c.loop-section-2.invariant)

pub returns-in_err-section : goal.returns-in_err-section
returns-in_err-section c =
    let slice = c.as_slice-section-items-2.result.now in
    let i = c.loop-section-2.section-index in
    let x = c.section-item-in-loop-section-2.result in
    let further = early c.args.model.now in
    let more : take (i + 1) slice ≡ take i slice ++ x ∷ [] = take_more slice i x c.loop-section-2-test.true ∙ ap (λ y. take i slice ++ y ∷ []) (sym c.section-item-in-loop-section-2.is) in
    let p = err_from_is_err_and c.from_residual-in_err-section.result c.from_residual-in_err-section.ensures.1 in
    rw (p.1, p.2) (rw c.as_slice-section-items-2.ensures at (fault_of_section further start slice i x _ more (c.in_err-section.ensures _ further c.loop-section-2.invariant)))

pub returns : goal.returns
returns c =
    let slice = c.as_slice-section-items-2.result.now in
    let all : take c.loop-section-2.section-index slice ≡ slice = take_all c.loop-section-2.section-index slice (omega (arith, c.loop-section-2-test.false)) in
    rw (all ∙ c.as_slice-section-items-2.ensures) at c.loop-section-2.invariant
