use Rattle.std.proofs.Common.{◌++◌, ap, length, ◌∙◌, List, ℕ, subst}
use Rattle.hll_meaning.specs.Runs.{definitions}
use Rattle.hll_meaning.specs.StaticRules.{pass3_faults}
use Rattle.hll_expressions.specs.declared.faults.StaticFault.TheVariants.{Memory}
use Rattle.hll_expressions.specs.Answers.{IsFaultAt}
use Rattle.hll_types.specs.Defining.{pass2}
use Rattle.hll_expressions.specs.Things.{declared_names, names_of}
use Rattle.hll_expressions.proofs.Firsts.{before, behind, none_both}
use Rattle.hll_expressions.proofs.FaultFolds.{handed}
use Rattle.hll_types.specs.Tables.{AreAmong}
use Rattle.hll_types.proofs.TextTables.{as_many_places, variables_of_text}
use Rattle.hll_types.proofs.passes.later_passes.Goals as goal

pub variables-requires : goal.variables-requires
variables-requires c =
    ap length c.as_slice.ensures.value ∙ as_many_places c.args.model.now (declared_names c.args.names.now) c.in_ok-places.places.items c.requires c.in_ok-places.ensures

pub returns-in_err-defined : goal.returns-in_err-defined
returns-in_err-defined c =
    let f = c.in_err-defined.field-0.0 in
    let p = pass2 (names_of c.args.names.now) c.args.model.now in
    handed _ (IsFaultAt (p.faults ++ pass3_faults c.args.model.now)) c.from_residual.result f c.from_residual.ensures.1 (before p.faults (pass3_faults c.args.model.now) f c.in_err-defined.ensures)

pub returns-in_err-complete_all : goal.returns-in_err-complete_all
returns-in_err-complete_all c =
    let f = c.in_err-complete_all.field-0.0 in
    let p = pass2 (names_of c.args.names.now) c.args.model.now in
    handed _ (IsFaultAt (p.faults ++ pass3_faults c.args.model.now)) c.from_residual-in_err-complete_all.result f c.from_residual-in_err-complete_all.ensures.1
    (behind p.faults (pass3_faults c.args.model.now) f c.in_ok-defined.ensures.0 (c.in_err-complete_all.ensures (definitions c.args.model.now) c.in_ok-defined.ensures.1))

pub returns-in_err-places : goal.returns-in_err-places
returns-in_err-places c =
    let p = pass2 (names_of c.args.names.now) c.args.model.now in
    handed _ (IsFaultAt (p.faults ++ pass3_faults c.args.model.now)) c.from_residual-in_err-places.result Memory c.from_residual-in_err-places.ensures.1 tt

pub returns-in_err-variables : goal.returns-in_err-variables
returns-in_err-variables c =
    let p = pass2 (names_of c.args.names.now) c.args.model.now in
    handed _ (IsFaultAt (p.faults ++ pass3_faults c.args.model.now)) c.from_residual-in_err-variables.result Memory c.from_residual-in_err-variables.ensures.1 tt

pub returns : goal.returns
returns c =
    let p = pass2 (names_of c.args.names.now) c.args.model.now in
    let all = declared_names c.args.names.now in (
      none_both p.faults (pass3_faults c.args.model.now) c.in_ok-defined.ensures.0 (c.in_ok-complete_all.ensures (definitions c.args.model.now) c.in_ok-defined.ensures.1),
      variables_of_text c.args.model.now all c.in_ok-places.places.items c.in_ok-defined.defined c.in_ok-variables.variables.items c.requires c.in_ok-places.ensures c.in_ok-defined.ensures.1
          (subst (λ (places : List ℕ). AreAmong all places c.in_ok-defined.defined c.in_ok-variables.variables.items) c.as_slice.ensures.value c.in_ok-variables.ensures),
    )
