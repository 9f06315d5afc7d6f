use Rattle.std.specs.List.{AllByRecursion, flat_map}
use Rattle.hll_meaning.specs.Nodes.{asked_nodes}
use Rattle.hll_meaning.specs.StaticRules.{asked_in}
use Rattle.hll_expressions.specs.Things.{names_of}
use Rattle.hll_expressions.proofs.RangeLemmas.{nothing_noted}
use Rattle.hll_types.specs.Walking.{IsFineAsked}
use Rattle.hll_types.proofs.RangeWalk.{each_fails, walk_all, walk_more}
use Rattle.hll_types.proofs.ranges.all_asked.Goals as goal

pub loop-section-init : goal.loop-section-init
loop-section-init c = nothing_noted c.args.ranges.now

pub loop-section-preserved : goal.loop-section-preserved
loop-section-preserved c = walk_more (λ s. flat_map (asked_nodes (names_of c.args.names.now)) (asked_in s)) c.args.sections.now c.loop-section.section-index c.section-item.result c.loop-section-test.true c.section-item.is c.loop-section.invariant c.in_ok-asked.ensures

pub returns-in_err-asked : goal.returns-in_err-asked
returns-in_err-asked c =
    let f = c.in_err-asked.field-0.0 in
    each_fails (λ s. flat_map (asked_nodes (names_of c.args.names.now)) (asked_in s)) c.args.sections.now c.loop-section.section-index (λ s. AllByRecursion (IsFineAsked (names_of c.args.names.now)) (asked_in s)) c.args.ranges.now c.asked.new.ranges c.from_residual.result c.section-item.result f c.from_residual.ensures.1 c.loop-section-test.true c.section-item.is c.in_err-asked.ensures

pub returns : goal.returns
returns c = walk_all (λ s. flat_map (asked_nodes (names_of c.args.names.now)) (asked_in s)) c.args.sections.now c.loop-section.section-index c.loop-section-test.false c.loop-section.invariant
