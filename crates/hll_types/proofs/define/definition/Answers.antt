use Rattle.std.proofs.Common.{List, ap, ◌∙◌}
use Rattle.hll_expressions.specs.Answers.{IsFaultAt}
use Rattle.hll_expressions.specs.declared.scope.Index.{Index}
use Rattle.hll_expressions.specs.Scopes.{context, index_names}
use Rattle.hll_expressions.specs.Things.{names_of}
use Rattle.hll_meaning.specs.StaticRules.{asking, definition_faults}
use Rattle.hll_expressions.proofs.FaultFolds.{handed}
use Rattle.hll_types.proofs.DefinitionSteps.{twice_first, kind_first, left_first, given_ends}
use Rattle.hll_types.proofs.define.definition.Goals as goal

pub returns-in_err-add : goal.returns-in_err-add
returns-in_err-add c own keeps =
    let all = names_of c.args.names.now in
    let f = c.in_err-add.field-0.0 in
    handed _ (IsFaultAt (definition_faults all own c.args.def.now)) c.from_residual.result f c.from_residual.ensures.1 (twice_first all own c.args.def.now f (c.in_err-add.ensures own keeps))

pub returns-in_err-kind : goal.returns-in_err-kind
returns-in_err-kind c own keeps =
    let all = names_of c.args.names.now in
    let f = c.in_err-kind.field-0.0 in
    handed _ (IsFaultAt (definition_faults all own c.args.def.now)) c.from_residual-in_err-kind.result f c.from_residual-in_err-kind.ensures.1
    (kind_first all own c.args.def.now f (c.in_ok-add.ensures own keeps).0 c.in_err-kind.ensures)

pub returns-in_err-rest : goal.returns-in_err-rest
returns-in_err-rest c own keeps =
    let all = names_of c.args.names.now in
    let f = c.in_err-rest.field-0.0 in
    handed _ (IsFaultAt (definition_faults all own c.args.def.now)) c.from_residual-in_err-rest.result f c.from_residual-in_err-rest.ensures.1
    (left_first all own c.args.def.now c.in_ok-kind.kind.now (c.in_ok-add.ensures own keeps).0 c.in_ok-kind.ensures c.new-bound.result.items c.as_slice-indices.result.now f c.new-bound.ensures.items c.as_slice-indices.ensures c.in_err-rest.ensures)

pub returns : goal.returns
returns c own keeps =
    let all = names_of c.args.names.now in
    let added = c.in_ok-add.ensures own keeps in
    given_ends all own c.args.def.now c.in_ok-kind.kind.now added.0 c.in_ok-kind.ensures c.add.new.self c.new-bound.result.items c.left.new.bound.items c.as_slice-indices.result.now c.in_ok-rest.rest.now (context c.asking-scope.result) c.given.result
    c.new-bound.ensures.items c.as_slice-indices.ensures c.in_ok-rest.ensures (c.asking-scope.ensures ∙ ap (λ (xs : List Index). asking all (index_names xs)) c.as_slice.ensures.value) added.1 c.given.ensures
