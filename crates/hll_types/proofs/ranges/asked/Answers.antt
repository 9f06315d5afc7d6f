use Rattle.std.proofs.Common.{map, sym, ap, ◌∙◌, inl, inr}
use Rattle.std.specs.List.{flat_map}
use Rattle.hll_meaning.specs.Nodes.{asked_nodes}
use Rattle.hll_meaning.specs.StaticRules.{asked_in, defines, demands}
use Rattle.hll_expressions.specs.Things.{names_of}
use Rattle.hll_types.proofs.RangeWalk.{nothing_walked, of_asked}
use Rattle.hll_types.proofs.ranges.asked.Goals as goal

pub returns-in-Definitions : goal.returns-in-Definitions
returns-in-Definitions c = of_asked (names_of c.args.names.now) _ _ defines c.as_slice.result.now (asked_in c.args.section.now) c.definitions.result (ap asked_in c.in-Definitions.is ∙ ap (map defines) (sym c.as_slice.ensures)) c.definitions.ensures

pub returns-in-Constraints : goal.returns-in-Constraints
returns-in-Constraints c =
    let all = names_of c.args.names.now in
    let seen = ap (map demands) (sym c.as_slice-in-Constraints.ensures) in
    elim c.in-Constraints.is [
      | inl is ↦ of_asked all _ _ demands c.as_slice-in-Constraints.result.now (asked_in c.args.section.now) c.all_demands.result (ap asked_in is ∙ seen) c.all_demands.ensures
      | inr is ↦ of_asked all _ _ demands c.as_slice-in-Constraints.result.now (asked_in c.args.section.now) c.all_demands.result (ap asked_in is ∙ seen) c.all_demands.ensures
    ]

pub returns-in-Constants : goal.returns-in-Constants
returns-in-Constants c = nothing_walked c.args.ranges.now (ap (λ s. flat_map (asked_nodes (names_of c.args.names.now)) (asked_in s)) c.in-Constants.is)

pub returns-in-Types : goal.returns-in-Types
returns-in-Types c = nothing_walked c.args.ranges.now (ap (λ s. flat_map (asked_nodes (names_of c.args.names.now)) (asked_in s)) c.in-Types.is)

pub returns-in-Inputs : goal.returns-in-Inputs
returns-in-Inputs c = nothing_walked c.args.ranges.now (ap (λ s. flat_map (asked_nodes (names_of c.args.names.now)) (asked_in s)) c.in-Inputs.is)

pub returns-in-Declarations : goal.returns-in-Declarations
returns-in-Declarations c = nothing_walked c.args.ranges.now (ap (λ s. flat_map (asked_nodes (names_of c.args.names.now)) (asked_in s)) c.in-Declarations.is)
