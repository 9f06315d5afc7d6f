use Rattle.std.proofs.lemmas.Result.{err_from_is_err_and}
use Rattle.hll_meaning.specs.Types.{kind_of}
use Rattle.hll_types.proofs.FieldsWalk.{field_answer, field_written}
use Rattle.hll_types.proofs.declare.Declared.field.Goals as goal

pub returns-in_err-each : goal.returns-in_err-each
returns-in_err-each c =
    let p = err_from_is_err_and c.from_residual-in_err-each.result c.from_residual-in_err-each.ensures.1 in
    rw (p.1, p.2) (λ names further h. field_written names further c.args.before.now c.args.item.now _ c.in_ok-insert.ensures.0 (c.in_err-each.ensures names further h))

pub returns : goal.returns
returns c = λ names further h.
    let each = c.in_ok-each.ensures names further h in
    field_answer names further c.args.before.now _ c.args.item.now (kind_of c.in_ok-each.each) c.with_dims.result c.in_ok-insert.ensures.0 each.0 c.in_ok-insert.ensures.1 each.1 (rw c.as_slice.ensures at (c.with_dims.ensures names further h))
