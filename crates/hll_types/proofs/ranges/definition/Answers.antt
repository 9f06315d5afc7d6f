use Rattle.std.proofs.Common.{◌≡◌, ap, ◌∙◌}
use Rattle.hll_meaning.specs.Names.{under}
use Rattle.hll_meaning.specs.StaticRules.{defined_faults, defines}
use Rattle.hll_expressions.specs.Scopes.{context, index_names}
use Rattle.hll_expressions.specs.Things.{names_of}
use Rattle.hll_expressions.proofs.FaultFolds.{handed}
use Rattle.hll_types.specs.Walking.{IsFineAsked}
use Rattle.hll_types.proofs.RangeWalk.{asked_as, definition_nodes, fitting_faultless, left_faultless, only_memory}
use Rattle.hll_expressions.specs.declared.faults.StaticFault.TheVariants.{Memory}
use Rattle.std.proofs.Common.{List}
use Rattle.hll_meaning.specs.StaticRules.{asking}
use Rattle.hll_expressions.specs.declared.scope.Index.{Index}
use Rattle.hll_types.proofs.ranges.definition.Goals as goal

pub returns-in_err-kind : goal.returns-in_err-kind
returns-in_err-kind c =
    let all = names_of c.args.names.now in
    let f = c.in_err-kind.field-0.0 in
    handed _ (λ e. IsFineAsked all (defines c.args.def.now) → e ≡ Memory) c.from_residual.result f c.from_residual.ensures.1 (λ fine. only_memory (defined_faults all c.args.def.now (under c.args.def.now.name.text all)) f (fitting_faultless all c.args.def.now fine.0) c.in_err-kind.ensures)

pub returns-in_err-_rest : goal.returns-in_err-_rest
returns-in_err-_rest c =
    let all = names_of c.args.names.now in
    let f = c.in_err-_rest.field-0.0 in
    handed _ (λ e. IsFineAsked all (defines c.args.def.now) → e ≡ Memory) c.from_residual-in_err-_rest.result f c.from_residual-in_err-_rest.ensures.1
    (λ fine.
    only_memory _ f (left_faultless all c.args.def.now c.in_ok-kind.kind.now c.new-bound.result.items c.as_slice-indices.result.now c.in_ok-kind.ensures c.new-bound.ensures.items c.as_slice-indices.ensures fine.0) c.in_err-_rest.ensures)

pub returns : goal.returns
returns c =
    let all = names_of c.args.names.now in
    asked_as all _ _ (defines c.args.def.now) _ c.part.result
    (definition_nodes all c.args.def.now c.in_ok-kind.kind.now c.new-bound.result.items c.left.new.bound.items c.as_slice-indices.result.now c.in_ok-_rest._rest.now (context c.asking-scope.result) c.in_ok-kind.ensures c.new-bound.ensures.items c.as_slice-indices.ensures
    c.in_ok-_rest.ensures (c.asking-scope.ensures ∙ ap (λ (xs : List Index). asking all (index_names xs)) c.as_slice.ensures.value)) c.part.ensures
