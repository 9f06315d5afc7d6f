use Rattle.std.proofs.Common.{◌≡◌, ap, subst, ◌∙◌, map, List, sym}
use Rattle.std.specs.List.{IsDistinct}
use Rattle.std.specs.Str.{bytes_eq}
use Rattle.hll_meaning.specs.StaticRules.{faults}
use Rattle.hll_expressions.specs.declared.faults.StaticFault.TheVariants.{Memory}
use Rattle.hll_expressions.specs.Answers.{IsFaultAt}
use Rattle.hll_expressions.specs.Things.{names_of}
use Rattle.hll_expressions.proofs.Firsts.{no_memory}
use Rattle.hll_expressions.proofs.FaultFolds.{handed}
use Rattle.hll_types.specs.declared.tables.Tables.{Tables}
use Rattle.hll_types.specs.declared.variables.Variable.{Variable}
use Rattle.hll_types.specs.RangeTables.{Tabulates}
use Rattle.hll_types.proofs.CheckedTexts.{first_pass}
use Rattle.hll_types.proofs.TextTables.{later_fault, no_later_faults, tables_of_text}
use Rattle.hll_types.proofs.passes.tables.Goals as goal

pub later_passes-requires : goal.later_passes-requires
later_passes-requires c =
    let after = c.in_ok-declared.ensures in
    (c.in_ok-names.ensures c.args.model.now after.faultless after.names.declared after.sorts).1

pub positions-requires : goal.positions-requires
positions-requires c = subst (λ (vs : List Variable). IsDistinct bytes_eq (map (λ v. v.name) vs)) (sym c.as_slice.ensures.value) c.in_ok-variables.ensures.1.distinct

pub returns-in_err-declared : goal.returns-in_err-declared
returns-in_err-declared c =
    let f = c.in_err-declared.field-0.0 in
    handed _ (IsFaultAt (faults c.args.model.now)) c.from_residual.result f c.from_residual.ensures.1 (first_pass c.args.model.now f c.in_err-declared.ensures)

pub returns-in_err-names : goal.returns-in_err-names
returns-in_err-names c =
    let f = c.in_err-names.field-0.0 in
    let after = c.in_ok-declared.ensures in
    handed _ (IsFaultAt (faults c.args.model.now)) c.from_residual-in_err-names.result f c.from_residual-in_err-names.ensures.1
    (no_memory (faults c.args.model.now) f (c.in_err-names.ensures c.args.model.now after.faultless after.names.declared after.sorts))

pub returns-in_err-variables : goal.returns-in_err-variables
returns-in_err-variables c =
    let f = c.in_err-variables.field-0.0 in
    let after = c.in_ok-declared.ensures in
    let names = c.in_ok-names.ensures c.args.model.now after.faultless after.names.declared after.sorts in
    handed _ (IsFaultAt (faults c.args.model.now)) c.from_residual-in_err-variables.result f c.from_residual-in_err-variables.ensures.1
    (later_fault c.args.model.now (names_of c.in_ok-names.names) f after.faultless names.0 c.in_err-variables.ensures)

pub returns-in_err-positions : goal.returns-in_err-positions
returns-in_err-positions c =
    handed _ (IsFaultAt (faults c.args.model.now)) c.from_residual-in_err-positions.result Memory c.from_residual-in_err-positions.ensures.1 tt

pub returns-in_err-elements : goal.returns-in_err-elements
returns-in_err-elements c =
    handed _ (IsFaultAt (faults c.args.model.now)) c.from_residual-in_err-elements.result Memory c.from_residual-in_err-elements.ensures.1 tt

pub returns-in_err-noted : goal.returns-in_err-noted
returns-in_err-noted c =
    let f = c.in_err-noted.field-0.0 in
    let after = c.in_ok-declared.ensures in
    let names = c.in_ok-names.ensures c.args.model.now after.faultless after.names.declared after.sorts in
    let well = no_later_faults c.args.model.now (names_of c.in_ok-names.names) after.faultless names.0 c.in_ok-variables.ensures.0 in
    let memory : f ≡ Memory = c.in_err-noted.ensures well names.0 in
    handed _ (IsFaultAt (faults c.args.model.now)) c.from_residual-in_err-noted.result f c.from_residual-in_err-noted.ensures.1 (subst (IsFaultAt (faults c.args.model.now)) (sym memory) tt)

pub returns-in_err-ranges : goal.returns-in_err-ranges
returns-in_err-ranges c =
    let f = c.in_err-ranges.field-0.0 in
    let memory : f ≡ Memory = c.in_err-ranges.ensures.memory in
    handed _ (IsFaultAt (faults c.args.model.now)) c.from_residual-in_err-ranges.result f c.from_residual-in_err-ranges.ensures.1 (subst (IsFaultAt (faults c.args.model.now)) (sym memory) tt)

pub returns : goal.returns
returns c =
    let after = c.in_ok-declared.ensures in
    let names = c.in_ok-names.ensures c.args.model.now after.faultless after.names.declared after.sorts in
    let t : Tables = record { names = c.in_ok-names.names; variables = c.in_ok-variables.variables; positions = c.in_ok-positions.positions; elements = c.in_ok-elements.elements; ranges = c.in_ok-ranges.ranges } in
    let well = no_later_faults c.args.model.now (names_of c.in_ok-names.names) after.faultless names.0 c.in_ok-variables.ensures.0 in
    record {
      well = well;
      tables = tables_of_text c.args.model.now t names.0 names.1 c.in_ok-variables.ensures.1 (c.in_ok-positions.ensures ∙ ap (map (λ (v : Variable). v.name)) c.as_slice.ensures.value) c.in_ok-elements.ensures (subst (Tabulates c.in_ok-ranges.ranges) (c.in_ok-noted.ensures well names.0) c.in_ok-ranges.ensures.table);
    }
