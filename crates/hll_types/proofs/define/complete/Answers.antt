use Rattle.std.proofs.Common.{not, sym, ap, subst, ◌∙◌}
use Rattle.hll_meaning.specs.StaticRules.{definitions_of, variable_faults}
use Rattle.hll_expressions.specs.Answers.{IsFaultAt}
use Rattle.hll_meaning.specs.declared.fault.StaticKind.TheVariants.{FirstMissing}
use Rattle.hll_types.specs.Defining.{HasParts, parts_under}
use Rattle.hll_expressions.proofs.FaultFolds.{refused}
use Rattle.hll_types.proofs.CompleteVariables.{complete_whole, complete_undefined, complete_next}
use Rattle.hll_types.proofs.define.complete.Goals as goal

pub returns-then-parts : goal.returns-then-parts
returns-then-parts c defs keeps =
    let has : HasParts (definitions_of defs c.args.name.now.text) c.parts-parts.result = subst (HasParts (definitions_of defs c.args.name.now.text)) (sym (c.parts-parts.ensures ∙ ap (parts_under c.args.defined.now) c.bytes.ensures)) (keeps c.args.name.now.text) in
    complete_whole c.args.name.now defs c.parts-parts.result has c.if-parts.true

pub returns-in-None : goal.returns-in-None
returns-in-None c defs keeps =
    let has : HasParts (definitions_of defs c.args.name.now.text) c.parts-parts.result = subst (HasParts (definitions_of defs c.args.name.now.text)) (sym (c.parts-parts.ensures ∙ ap (parts_under c.args.defined.now) c.bytes.ensures)) (keeps c.args.name.now.text) in
    subst (IsFaultAt (variable_faults defs c.args.name.now)) (sym c.fault.ensures) (complete_undefined c.args.name.now defs c.parts-parts.result has c.if-parts.false c.in-None.is)

pub returns-in-Some : goal.returns-in-Some
returns-in-Some c defs keeps =
    let has : HasParts (definitions_of defs c.args.name.now.text) c.parts-parts.result = subst (HasParts (definitions_of defs c.args.name.now.text)) (sym (c.parts-parts.ensures ∙ ap (parts_under c.args.defined.now) c.bytes.ensures)) (keeps c.args.name.now.text) in
    complete_next c.args.name.now defs c.parts-parts.result has c.in-Some.at c.refuse_if.result c.if-parts.false c.in-Some.is (refused (not c.parts-parts.result.first) FirstMissing c.in-Some.at c.refuse_if.result c.refuse_if.ensures)
