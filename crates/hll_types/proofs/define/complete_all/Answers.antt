use Rattle.std.proofs.Common.{sym, ap, ◌∙◌}
use Rattle.std.specs.List.{flat_map}
use Rattle.std.proofs.lemmas.List.{take_all}
use Rattle.hll_tree.specs.declared.tree.Section.{Section}
use Rattle.hll_meaning.specs.StaticRules.{declared_in, variable_faults}
use Rattle.hll_expressions.specs.Answers.{IsFaultAt}
use Rattle.hll_expressions.proofs.Firsts.{none_more, first_at}
use Rattle.hll_expressions.proofs.FaultFolds.{handed, same_faults}
use Rattle.hll_types.proofs.PassFolds.{complete_sections}
use Rattle.hll_types.proofs.define.complete_all.Goals as goal

pub loop-section-preserved : goal.loop-section-preserved
loop-section-preserved c defs keeps =
    none_more (λ (s : Section). flat_map (variable_faults defs) (declared_in s)) c.as_slice-section-items.result.now c.loop-section.section-index c.section-item.result c.loop-section-test.true c.section-item.is (c.loop-section.invariant defs keeps) (c.in_ok-complete_section.ensures defs keeps)

pub returns-in_err-complete_section : goal.returns-in_err-complete_section
returns-in_err-complete_section c defs keeps =
    let f = c.in_err-complete_section.field-0.0 in
    handed _ (IsFaultAt (flat_map (variable_faults defs) (flat_map declared_in c.args.model.now.sections))) c.from_residual.result f c.from_residual.ensures.1
    (same_faults _ _ f (ap (flat_map (λ (s : Section). flat_map (variable_faults defs) (declared_in s))) c.as_slice-section-items.ensures ∙ sym (complete_sections defs c.args.model.now.sections))
    (first_at (λ (s : Section). flat_map (variable_faults defs) (declared_in s)) c.as_slice-section-items.result.now c.loop-section.section-index c.section-item.result f c.loop-section-test.true c.section-item.is (c.loop-section.invariant defs keeps) (c.in_err-complete_section.ensures defs keeps)))

pub returns : goal.returns
returns c defs keeps =
    complete_sections defs c.args.model.now.sections ∙ sym (ap (flat_map (λ (s : Section). flat_map (variable_faults defs) (declared_in s))) (take_all c.loop-section.section-index c.as_slice-section-items.result.now c.loop-section-test.false ∙ c.as_slice-section-items.ensures)) ∙ c.loop-section.invariant defs keeps
