use Rattle.std.proofs.Common.{sym, ap, ◌∙◌}
use Rattle.std.specs.List.{flat_map}
use Rattle.std.proofs.lemmas.List.{take_all}
use Rattle.hll_tree.specs.declared.tree.Decl.{Decl}
use Rattle.hll_expressions.specs.Answers.{IsFaultAt}
use Rattle.hll_types.specs.Defining.{declarator_faults}
use Rattle.hll_expressions.proofs.Firsts.{none_more, first_at}
use Rattle.hll_expressions.proofs.FaultFolds.{handed, same_faults}
use Rattle.hll_types.proofs.define.complete_declared.Goals as goal

pub loop-decl-preserved : goal.loop-decl-preserved
loop-decl-preserved c defs keeps =
    none_more (λ (d : Decl). declarator_faults defs d.names) c.args.decls.now c.loop-decl.decl-index c.decl-item.result c.loop-decl-test.true c.decl-item.is (c.loop-decl.invariant defs keeps)
    (sym (ap (declarator_faults defs) c.as_slice.ensures) ∙ c.in_ok-complete_each.ensures defs keeps)

pub returns-in_err-complete_each : goal.returns-in_err-complete_each
returns-in_err-complete_each c defs keeps =
    let f = c.in_err-complete_each.field-0.0 in
    handed _ (IsFaultAt (flat_map (λ (d : Decl). declarator_faults defs d.names) c.args.decls.now)) c.from_residual.result f c.from_residual.ensures.1
    (first_at (λ (d : Decl). declarator_faults defs d.names) c.args.decls.now c.loop-decl.decl-index c.decl-item.result f c.loop-decl-test.true c.decl-item.is (c.loop-decl.invariant defs keeps)
    (same_faults _ _ f (ap (declarator_faults defs) c.as_slice.ensures) (c.in_err-complete_each.ensures defs keeps)))

pub returns : goal.returns
returns c defs keeps = sym (ap (flat_map (λ (d : Decl). declarator_faults defs d.names)) (take_all c.loop-decl.decl-index c.args.decls.now c.loop-decl-test.false)) ∙ c.loop-decl.invariant defs keeps
