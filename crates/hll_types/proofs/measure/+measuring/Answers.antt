use Rattle.std.proofs.Common.{◌≡◌, ◌+◌, [], ◌∷◌, ◌++◌, take, sym, ap, ◌∙◌}
use Rattle.std.proofs.lemmas.List.{take_more}
use Rattle.hll_meaning.specs.Types.{kind_of}
use Rattle.hll_meaning.proofs.KindForms.{kind_of_array, kind_of_struct}
use Rattle.hll_types.specs.Measures.{field_kinds_of, fields_measure, kind_measure}
use Rattle.hll_types.proofs.Measuring.{measure_further, measure-array, measure-struct}
use Rattle.hll_types.proofs.measure.+measuring.Goals as goal

pub measure_fields-loop-field-preserved : goal.measure_fields-loop-field-preserved
measure_fields-loop-field-preserved t c =
    let fields = c.args.fields.now in
    let before = take c.loop-field.field-index fields in
    let f = c.field-item.result in
    let more : take (c.loop-field.field-index + 1) fields ≡ before ++ f ∷ [] =
    take_more fields c.loop-field.field-index f c.loop-field-test.true ∙ ap (λ x. before ++ x ∷ []) (sym c.field-item.is) in
    (λ i. record { cells = c.saturating_add.ensures i; levels = c.max.ensures i })
    ∙ measure_further before f c.loop-field.all c.measure_of-one.result c.loop-field.invariant c.measure_of-one.ensures
    ∙ ap (λ fs. fields_measure (field_kinds_of fs)) (sym more)

pub measure_of-returns-in-Array : goal.measure_of-returns-in-Array
measure_of-returns-in-Array t c =
    let each = c.in-Array.each in
    (λ i. record { cells = c.saturating_mul.ensures i; levels = c.saturating_add.ensures i })
    ∙ measure-array c.in-Array.count (kind_of each) c.measure_of-one.result (c.measure_of-one.ensures ∙ ap (λ x. kind_measure (kind_of x)) c.get.ensures)
    ∙ ap kind_measure (sym (ap kind_of c.in-Array.is ∙ kind_of_array c.in-Array.count each))

pub measure_of-returns-in-Struct : goal.measure_of-returns-in-Struct
measure_of-returns-in-Struct t c =
    let fields = c.in-Struct.fields in
    (λ i. record { cells = c.measure_fields-all.result.cells; levels = c.saturating_add-in-Struct.ensures i })
    ∙ measure-struct c.in-Struct.field-0 (field_kinds_of fields) c.measure_fields-all.result (c.measure_fields-all.ensures ∙ ap (λ fs. fields_measure (field_kinds_of fs)) c.as_slice.ensures)
    ∙ ap kind_measure (sym (ap kind_of c.in-Struct.is ∙ kind_of_struct c.in-Struct.field-0 fields))
