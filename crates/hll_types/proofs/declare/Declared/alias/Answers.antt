use Rattle.std.proofs.Common.{◌≡◌, sym, ap, ◌∙◌}
use Rattle.std.proofs.lemmas.Result.{err_from_is_err_and}
use Rattle.hll_meaning.specs.declared.fault.StaticKind.TheVariants as is
use Rattle.hll_meaning.specs.Types.{kind_of}
use Rattle.hll_meaning.specs.Declarations.{declared_kind, with_dims}
use Rattle.hll_meaning.specs.Judging.{fault_if}
use Rattle.hll_meaning.specs.StaticRules.{is_large, taken_by}
use Rattle.hll_expressions.specs.Things.{declared_names}
use Rattle.hll_expressions.proofs.FirstFaults.{fault_same}
use Rattle.hll_types.proofs.ItemAnswers.{alias_written, alias_twice, alias_dims, alias_large, alias_right}
use Rattle.hll_types.proofs.LargeKinds.{large_measure}
use Rattle.hll_types.proofs.FreshNames.{new_name}
use Rattle.hll_types.proofs.NameAnswers.{declared_answer}
use Rattle.hll_types.proofs.declare.Declared.alias.Goals as goal

pub returns-in_err-each : goal.returns-in_err-each
returns-in_err-each c =
    let p = err_from_is_err_and c.from_residual.result c.from_residual.ensures.1 in
    rw (p.1, p.2) (λ q further h. alias_written c.args.self.now q further h c.args.item.now c.args.declarator.now _ (c.in_err-each.ensures q.names further h.names))

pub returns-in_err-fresh : goal.returns-in_err-fresh
returns-in_err-fresh c =
    let p = err_from_is_err_and c.from_residual-in_err-fresh.result c.from_residual-in_err-fresh.ensures.1 in
    rw (p.1, p.2) (λ q further h. alias_twice c.args.self.now q further h c.args.item.now c.args.declarator.now _ (c.in_ok-each.ensures q.names further h.names).0 c.in_err-fresh.ensures)

pub returns-in_err-ty : goal.returns-in_err-ty
returns-in_err-ty c =
    let p = err_from_is_err_and c.from_residual-in_err-ty.result c.from_residual-in_err-ty.ensures.1 in
    rw (p.1, p.2) (λ q further h. alias_dims c.args.self.now q further h c.args.item.now c.args.declarator.now _ (c.in_ok-each.ensures q.names further h.names).0 c.in_ok-fresh.ensures (rw c.as_slice.ensures at (c.in_err-ty.ensures q.names further h.names)))

pub returns-in_err-refuse_if : goal.returns-in_err-refuse_if
returns-in_err-refuse_if c =
    let p = err_from_is_err_and c.from_residual-in_err-refuse_if.result c.from_residual-in_err-refuse_if.ensures.1 in
    rw (p.1, p.2) (λ q further h.
    let each = c.in_ok-each.ensures q.names further h.names in
    let dims = rw c.as_slice.ensures at (c.in_ok-ty.ensures q.names further h.names) in
    let kind : kind_of c.in_ok-ty.ty ≡ declared_kind q.names c.args.item.now c.args.declarator.now = dims.1 ∙ ap (with_dims q.names c.args.declarator.now.dims) each.1 in
    let large = c.is_large.ensures ∙ large_measure (kind_of c.in_ok-ty.ty) c.measure_of.result c.measure_of.ensures ∙ ap is_large kind in
    alias_large c.args.self.now q further h c.args.item.now c.args.declarator.now _ each.0 c.in_ok-fresh.ensures dims.0
    (fault_same (fault_if c.is_large.result is.Cells c.args.declarator.now.name.at) (fault_if (is_large (declared_kind q.names c.args.item.now c.args.declarator.now)) is.Cells c.args.declarator.now.name.at) _
    (ap (λ b. fault_if b is.Cells c.args.declarator.now.name.at) large) c.in_err-refuse_if.ensures.1))

pub returns : goal.returns
returns c = λ q further h.
    let each = c.in_ok-each.ensures q.names further h.names in
    let dims = rw c.as_slice.ensures at (c.in_ok-ty.ensures q.names further h.names) in
    let kind : kind_of c.in_ok-ty.ty ≡ declared_kind q.names c.args.item.now c.args.declarator.now = dims.1 ∙ ap (with_dims q.names c.args.declarator.now.dims) each.1 in
    let large = c.is_large.ensures ∙ large_measure (kind_of c.in_ok-ty.ty) c.measure_of.result c.measure_of.ensures in
    declared_answer _ c.declare.result c.declare.ensures.declared c.declare.ensures.memory
    (λ adds. let added = adds (new_name (taken_by (declared_names c.args.self.now.names)) c.args.declarator.now.name c.in_ok-fresh.ensures) in alias_right c.args.self.now q further h c.declare.new.self c.args.item.now c.args.declarator.now (kind_of c.in_ok-ty.ty) each.0 c.in_ok-fresh.ensures dims.0
    (sym large ∙ c.in_ok-refuse_if.ensures) kind added c.declare.ensures.others.0 c.declare.ensures.others.1)
