use Rattle.std.proofs.Common.{List, inl, inr, ap, subst}
use Rattle.std.specs.List.{flat_map}
use Rattle.hll_tree.specs.declared.tree.Def.{Def}
use Rattle.hll_expressions.specs.Answers.{IsJudged}
use Rattle.hll_types.specs.Defining.{demand_faults, AreDefinitions}
use Rattle.hll_expressions.specs.Things.{names_of}
use Rattle.hll_expressions.proofs.FaultFolds.{same_judged}
use Rattle.hll_types.proofs.PassFolds.{ask_definitions, ask_constraints, ask_obligations}
use Rattle.hll_types.proofs.define.ask.Goals as goal

pub returns-in-Definitions : goal.returns-in-Definitions
returns-in-Definitions c =
    let all = names_of c.args.names.now in
    ask_definitions all c.args.defined.now c.define_each.new.defined c.args.section.now c.in-Definitions.defs c.define_each.result c.in-Definitions.is
    (subst (λ (defs : List Def). AreDefinitions all c.args.defined.now c.define_each.new.defined defs c.define_each.result) c.as_slice.ensures c.define_each.ensures)

pub returns-in-Constraints : goal.returns-in-Constraints
returns-in-Constraints c =
    let all = names_of c.args.names.now in
    let judged : IsJudged (flat_map (demand_faults all) c.in-Constraints.exprs) c.demand_each.result = same_judged _ _ c.demand_each.result (ap (flat_map (demand_faults all)) c.as_slice-in-Constraints.ensures) c.demand_each.ensures in
    elim c.in-Constraints.is [
      | inl h ↦ ask_constraints all c.args.defined.now c.args.section.now c.in-Constraints.exprs c.demand_each.result h judged
      | inr h ↦ ask_obligations all c.args.defined.now c.args.section.now c.in-Constraints.exprs c.demand_each.result h judged
    ]
