use Rattle.std.specs.List.{flat_map}
use Rattle.hll_meaning.specs.Declarations.{items_in}
use Rattle.hll_meaning.specs.Nodes.{item_nodes}
use Rattle.hll_expressions.specs.Scopes.{context}
use Rattle.hll_expressions.proofs.RangeLemmas.{nothing_noted}
use Rattle.hll_types.proofs.RangeWalk.{node_fails, walk_all, walk_more}
use Rattle.hll_types.proofs.ranges.all_declared.Goals as goal

pub loop-section-init : goal.loop-section-init
loop-section-init c = nothing_noted c.args.ranges.now

pub loop-section-preserved : goal.loop-section-preserved
loop-section-preserved c = walk_more (λ s. flat_map (λ it. item_nodes it (context c.args.scope.now)) (items_in s)) c.args.sections.now c.loop-section.section-index c.section-item.result c.loop-section-test.true c.section-item.is c.loop-section.invariant c.in_ok-declared.ensures

pub returns-in_err-declared : goal.returns-in_err-declared
returns-in_err-declared c =
    let f = c.in_err-declared.field-0.0 in
    node_fails (λ s. flat_map (λ it. item_nodes it (context c.args.scope.now)) (items_in s)) c.args.sections.now c.loop-section.section-index c.args.ranges.now c.declared.new.ranges c.from_residual.result c.section-item.result f c.from_residual.ensures.1 c.loop-section-test.true c.section-item.is c.in_err-declared.ensures

pub returns : goal.returns
returns c = walk_all (λ s. flat_map (λ it. item_nodes it (context c.args.scope.now)) (items_in s)) c.args.sections.now c.loop-section.section-index c.loop-section-test.false c.loop-section.invariant
