use Rattle.std.proofs.Common.{sym, ap, ◌∙◌}
use Rattle.std.proofs.lemmas.List.{take_all}
use Rattle.hll_tree.specs.declared.tree.Declarator.{Declarator}
use Rattle.hll_meaning.specs.StaticRules.{variable_faults}
use Rattle.hll_expressions.specs.Answers.{IsFaultAt}
use Rattle.hll_types.specs.Defining.{declarator_faults}
use Rattle.hll_expressions.proofs.Firsts.{none_more, first_at}
use Rattle.hll_expressions.proofs.FaultFolds.{handed}
use Rattle.hll_types.proofs.define.complete_each.Goals as goal

pub loop-declarator-preserved : goal.loop-declarator-preserved
loop-declarator-preserved c defs keeps =
    none_more (λ (d : Declarator). variable_faults defs d.name) c.args.declarators.now c.loop-declarator.declarator-index c.declarator-item.result c.loop-declarator-test.true c.declarator-item.is (c.loop-declarator.invariant defs keeps) (c.in_ok-complete.ensures defs keeps)

pub returns-in_err-complete : goal.returns-in_err-complete
returns-in_err-complete c defs keeps =
    let f = c.in_err-complete.field-0.0 in
    handed _ (IsFaultAt (declarator_faults defs c.args.declarators.now)) c.from_residual.result f c.from_residual.ensures.1
    (first_at (λ (d : Declarator). variable_faults defs d.name) c.args.declarators.now c.loop-declarator.declarator-index c.declarator-item.result f c.loop-declarator-test.true c.declarator-item.is (c.loop-declarator.invariant defs keeps) (c.in_err-complete.ensures defs keeps))

pub returns : goal.returns
returns c defs keeps = sym (ap (declarator_faults defs) (take_all c.loop-declarator.declarator-index c.args.declarators.now c.loop-declarator-test.false)) ∙ c.loop-declarator.invariant defs keeps
