use Rattle.hll_meaning.specs.Nodes.{asked_nodes}
use Rattle.hll_meaning.specs.StaticRules.{defines}
use Rattle.hll_expressions.specs.Things.{names_of}
use Rattle.hll_expressions.proofs.RangeLemmas.{nothing_noted}
use Rattle.hll_types.specs.Walking.{IsFineAsked}
use Rattle.hll_types.proofs.RangeWalk.{each_fails, walk_all, walk_more}
use Rattle.hll_types.proofs.ranges.definitions.Goals as goal

pub loop-def-init : goal.loop-def-init
loop-def-init c = nothing_noted c.args.ranges.now

pub loop-def-preserved : goal.loop-def-preserved
loop-def-preserved c = walk_more (λ d. asked_nodes (names_of c.args.names.now) (defines d)) c.args.defs.now c.loop-def.def-index c.def-item.result c.loop-def-test.true c.def-item.is c.loop-def.invariant c.in_ok-definition.ensures

pub returns-in_err-definition : goal.returns-in_err-definition
returns-in_err-definition c =
    let f = c.in_err-definition.field-0.0 in
    each_fails (λ d. asked_nodes (names_of c.args.names.now) (defines d)) c.args.defs.now c.loop-def.def-index (λ d. IsFineAsked (names_of c.args.names.now) (defines d)) c.args.ranges.now c.definition.new.ranges c.from_residual.result c.def-item.result f c.from_residual.ensures.1 c.loop-def-test.true c.def-item.is c.in_err-definition.ensures

pub returns : goal.returns
returns c = walk_all (λ d. asked_nodes (names_of c.args.names.now) (defines d)) c.args.defs.now c.loop-def.def-index c.loop-def-test.false c.loop-def.invariant
