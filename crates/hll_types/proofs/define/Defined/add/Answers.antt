use Rattle.std.proofs.Common.{◌≡◌, ℕ, List, Bool, cond, sym, ap, subst, ◌∙◌}
use Rattle.std.specs.Str.{bytes_eq}
use Rattle.hll_meaning.specs.declared.fault.StaticKind.TheVariants.{Twice}
use Rattle.hll_meaning.specs.Judging.{fault_if}
use Rattle.hll_meaning.specs.StaticRules.{definitions_of, is_repeated}
use Rattle.hll_expressions.specs.Answers.{IsFaultAt}
use Rattle.hll_types.specs.Defining.{HasParts, parts_under}
use Rattle.hll_expressions.proofs.FaultFolds.{handed}
use Rattle.hll_types.proofs.KeptParts.{keeps_more, put}
use Rattle.hll_types.proofs.define.Defined.add.Goals as goal

pub returns-in_err-refuse_if : goal.returns-in_err-refuse_if
returns-in_err-refuse_if c before keeps =
    let parts : HasParts (definitions_of before c.args.def.now.name.text) c.parts-before.result =
    subst (HasParts (definitions_of before c.args.def.now.name.text)) (sym (c.parts-before.ensures ∙ ap (parts_under c.args.self.now) c.bytes-name.ensures)) (keeps c.args.def.now.name.text) in
    let clash : c.clashes.result ≡ is_repeated before c.args.def.now = c.clashes.ensures (definitions_of before c.args.def.now.name.text) parts in
    handed _ (IsFaultAt (fault_if (is_repeated before c.args.def.now) Twice c.args.def.now.name.at)) c.from_residual.result c.in_err-refuse_if.field-0.0 c.from_residual.ensures.1
    (subst (λ (b : Bool). IsFaultAt (fault_if b Twice c.args.def.now.name.at) c.in_err-refuse_if.field-0.0) clash c.in_err-refuse_if.ensures.1)

pub returns-in-Ok : goal.returns-in-Ok
returns-in-Ok c before keeps =
    let parts : HasParts (definitions_of before c.args.def.now.name.text) c.parts-before.result =
    subst (HasParts (definitions_of before c.args.def.now.name.text)) (sym (c.parts-before.ensures ∙ ap (parts_under c.args.self.now) c.bytes-name.ensures)) (keeps c.args.def.now.name.text) in
    let clash : c.clashes.result ≡ is_repeated before c.args.def.now = c.clashes.ensures (definitions_of before c.args.def.now.name.text) parts in
    let new_one : is_repeated before c.args.def.now ≡ _ = sym clash ∙ c.in_ok-refuse_if.ensures in
    let puts = put c.args.self.now (record { by_name = c.insert.new.self }) c.bytes-name.result c.with.result c.in-Ok.ensures.updates.0 in (
      new_one,
      keeps_more c.args.self.now (record { by_name = c.insert.new.self }) before c.args.def.now c.with.result keeps
          (λ (name : List ℕ). puts name ∙ ap (λ (own : List ℕ). cond (bytes_eq own name) c.with.result (parts_under c.args.self.now name)) c.bytes-name.ensures)
          (c.with.ensures (definitions_of before c.args.def.now.name.text) parts new_one),
    )
