use Rattle.std.proofs.Common.{ap}
use Rattle.std.specs.List.{flat_map}
use Rattle.hll_tree.specs.declared.tree.Decl.{Decl}
use Rattle.hll_types.specs.Defining.{declarator_faults}
use Rattle.hll_expressions.proofs.FaultFolds.{same_judged}
use Rattle.hll_types.proofs.PassFolds.{complete_declarations}
use Rattle.hll_types.proofs.define.complete_section.Goals as goal

pub returns-in-Declarations : goal.returns-in-Declarations
returns-in-Declarations c defs keeps =
    complete_declarations defs c.args.section.now c.in-Declarations.decls c.complete_declared.result c.in-Declarations.is
    (same_judged _ _ c.complete_declared.result (ap (flat_map (λ (d : Decl). declarator_faults defs d.names)) c.as_slice.ensures) (c.complete_declared.ensures defs keeps))
