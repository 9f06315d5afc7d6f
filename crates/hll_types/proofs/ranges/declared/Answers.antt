use Rattle.std.proofs.Common.{map, sym, ap, ◌∙◌}
use Rattle.std.specs.List.{flat_map}
use Rattle.hll_meaning.specs.Declarations.{a_constant, a_type, items_in, variables_of}
use Rattle.hll_meaning.specs.Nodes.{item_nodes}
use Rattle.hll_expressions.specs.Scopes.{context}
use Rattle.hll_types.proofs.RangeWalk.{nothing_walked, of_items}
use Rattle.std.proofs.Common.{true, false}
use Rattle.hll_types.proofs.ranges.declared.Goals as goal

pub returns-in-Constants : goal.returns-in-Constants
returns-in-Constants c = of_items _ _ (context c.args.scope.now) a_constant c.as_slice.result.now (items_in c.args.section.now) c.constants.result (ap items_in c.in-Constants.is ∙ ap (map a_constant) (sym c.as_slice.ensures)) c.constants.ensures

pub returns-in-Types : goal.returns-in-Types
returns-in-Types c = of_items _ _ (context c.args.scope.now) a_type c.as_slice-in-Types.result.now (items_in c.args.section.now) c.types.result (ap items_in c.in-Types.is ∙ ap (map a_type) (sym c.as_slice-in-Types.ensures)) c.types.ensures

pub returns-in-Inputs : goal.returns-in-Inputs
returns-in-Inputs c = of_items _ _ (context c.args.scope.now) (variables_of true) c.as_slice-in-Inputs.result.now (items_in c.args.section.now) c.all_variables.result (ap items_in c.in-Inputs.is ∙ ap (map (variables_of true)) (sym c.as_slice-in-Inputs.ensures)) c.all_variables.ensures

pub returns-in-Declarations : goal.returns-in-Declarations
returns-in-Declarations c = of_items _ _ (context c.args.scope.now) (variables_of false) c.as_slice-in-Declarations.result.now (items_in c.args.section.now) c.all_variables-in-Declarations.result (ap items_in c.in-Declarations.is ∙ ap (map (variables_of false)) (sym c.as_slice-in-Declarations.ensures)) c.all_variables-in-Declarations.ensures

pub returns-in-Definitions : goal.returns-in-Definitions
returns-in-Definitions c = nothing_walked c.args.ranges.now (ap (λ s. flat_map (λ it. item_nodes it (context c.args.scope.now)) (items_in s)) c.in-Definitions.is)

pub returns-in-Constraints : goal.returns-in-Constraints
returns-in-Constraints c = nothing_walked c.args.ranges.now (ap (λ s. flat_map (λ it. item_nodes it (context c.args.scope.now)) (items_in s)) c.in-Constraints.is)

pub returns-in-Obligations : goal.returns-in-Obligations
returns-in-Obligations c = nothing_walked c.args.ranges.now (ap (λ s. flat_map (λ it. item_nodes it (context c.args.scope.now)) (items_in s)) c.in-Obligations.is)
