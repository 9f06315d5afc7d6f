use Rattle.std.proofs.Common.{◌≡◌, ◌+◌, nat_lt, inl, inr, sym, ap, ◌∙◌}
use Rattle.std.proofs.lemmas.Result.{err_from_is_err_and}
use Rattle.hll_meaning.specs.Kinds.{cells}
use Rattle.hll_meaning.specs.Names.{Names}
use Rattle.hll_meaning.specs.Types.{kind_of}
use Rattle.hll_meaning.specs.Declarations.{with_dims}
use Rattle.hll_meaning.specs.StaticRules.{fresh_name, taken_by, is_large}
use Rattle.hll_meaning.proofs.Faultless.{neither}
use Rattle.hll_types.specs.Measures.{kind_measure}
use Rattle.hll_types.proofs.LargeKinds.{both_tests, large_measure, total_measure, total_exact}
use Rattle.hll_types.proofs.VariablesWalk.{variable_dims, variable_large, variable_fine}
use Rattle.hll_types.proofs.declare.Declared.variable.Goals as goal
use Rattle.hll_types.proofs.declare.Declared.variable.Goals.{then-is_large, else-is_large}

pub returns-in_err-ty : goal.returns-in_err-ty
returns-in_err-ty c =
    let p = err_from_is_err_and c.from_residual-in_err-ty.result c.from_residual-in_err-ty.ensures.1 in
    rw (p.1, p.2) (λ names further h.
    variable_dims names further c.args.before.now c.args.total (kind_of c.args.each.now) c.args.declarator.now _
    (ap (λ (xs : Names). fresh_name (taken_by xs) c.args.declarator.now.name) (sym h.declared) ∙ c.in_ok-fresh.ensures) c.in_ok-insert.ensures.0
    (rw c.as_slice.ensures at (c.in_err-ty.ensures names further h)))

pub returns-in_err-refuse_if : goal.returns-in_err-refuse_if
returns-in_err-refuse_if c =
    let p = err_from_is_err_and c.from_residual-in_err-refuse_if.result c.from_residual-in_err-refuse_if.ensures.1 in
    rw (p.1, p.2) (λ names further h.
    let dims = rw c.as_slice.ensures at (c.in_ok-ty.ensures names further h) in
    let k = with_dims names c.args.declarator.now.dims (kind_of c.args.each.now) in
    let kind : kind_of c.in_ok-ty.ty ≡ k = dims.1 ∙ ap (λ t. with_dims names c.args.declarator.now.dims (kind_of t)) c.in_ok-copy.ensures in
    let size = c.measure_of-size.ensures ∙ ap kind_measure kind in
    let test = both_tests c.if-is_large.refuse_if c.is_large.result (nat_lt 100000 c.saturating_add-total.result) (is_large k) (nat_lt 100000 (c.args.total + cells k))
    (c.is_large.ensures ∙ large_measure k c.measure_of-size.result size) (ap (nat_lt 100000) c.saturating_add-total.ensures ∙ total_measure c.args.total k c.measure_of-size.result size)
    (elim c.if-is_large.branch [ then-is_large w ↦ inl (w.if-is_large.true, w.refuse_if-is ∙ w.if-is_large.true) | else-is_large w ↦ inr (w.if-is_large.false, w.refuse_if-is) ]) in
    variable_large names further c.args.before.now c.args.total (kind_of c.args.each.now) c.args.declarator.now _ c.if-is_large.refuse_if test
    (ap (λ (xs : Names). fresh_name (taken_by xs) c.args.declarator.now.name) (sym h.declared) ∙ c.in_ok-fresh.ensures) c.in_ok-insert.ensures.0 dims.0
    c.in_err-refuse_if.ensures.1)

pub returns : goal.returns
returns c = λ names further h.
    let dims = rw c.as_slice.ensures at (c.in_ok-ty.ensures names further h) in
    let k = with_dims names c.args.declarator.now.dims (kind_of c.args.each.now) in
    let kind : kind_of c.in_ok-ty.ty ≡ k = dims.1 ∙ ap (λ t. with_dims names c.args.declarator.now.dims (kind_of t)) c.in_ok-copy.ensures in
    let size = c.measure_of-size.ensures ∙ ap kind_measure kind in
    let many = total_measure c.args.total k c.measure_of-size.result size in
    let test = both_tests c.if-is_large.refuse_if c.is_large.result (nat_lt 100000 c.saturating_add-total.result) (is_large k) (nat_lt 100000 (c.args.total + cells k))
    (c.is_large.ensures ∙ large_measure k c.measure_of-size.result size) (ap (nat_lt 100000) c.saturating_add-total.ensures ∙ many)
    (elim c.if-is_large.branch [ then-is_large w ↦ inl (w.if-is_large.true, w.refuse_if-is ∙ w.if-is_large.true) | else-is_large w ↦ inr (w.if-is_large.false, w.refuse_if-is) ]) in
    let few = (neither (is_large k) (nat_lt 100000 (c.args.total + cells k)) (sym test ∙ c.in_ok-refuse_if.ensures)).1 in (
      variable_fine names further c.args.before.now c.args.total (kind_of c.args.each.now) c.args.declarator.now c.if-is_large.refuse_if test c.in_ok-refuse_if.ensures
          (ap (λ (xs : Names). fresh_name (taken_by xs) c.args.declarator.now.name) (sym h.declared) ∙ c.in_ok-fresh.ensures) c.in_ok-insert.ensures.0 dims.0,
      c.in_ok-insert.ensures.1,
      kind,
      c.saturating_add-total.ensures ∙ total_exact c.args.total k c.measure_of-size.result size (many ∙ few),
    )
