use Rattle.std.proofs.Common.{◌≡◌, ◌+◌, List, [], ◌∷◌, ◌++◌, length, take, sym, ap, ◌∙◌}
use Rattle.std.proofs.lemmas.List.{take_more}
use Rattle.hll_meaning.specs.declared.ty.FieldTy.{FieldTy}
use Rattle.hll_meaning.specs.Kinds.{cells, field_ranges}
use Rattle.hll_meaning.specs.Types.{kind_of}
use Rattle.hll_meaning.proofs.KindForms.{kind_of_array, kind_of_struct}
use Rattle.hll_types.specs.Measures.{capped, field_kinds_of}
use Rattle.cell_layout.proofs.HeldNumbers.{array_held, field_held}
use Rattle.cell_layout.proofs.sizes.+counting.Goals as goal

pub cells_of_fields-loop-field-preserved : goal.cells_of_fields-loop-field-preserved
cells_of_fields-loop-field-preserved t c =
    let fields = c.args.fields.now in
    let before = take c.loop-field.field-index fields in
    let f = c.field-item.result in
    let more : take (c.loop-field.field-index + 1) fields ≡ before ++ f ∷ [] =
    take_more fields c.loop-field.field-index f c.loop-field-test.true ∙ ap (λ x. before ++ x ∷ []) (sym c.field-item.is) in
    c.saturating_add-count.ensures
    ∙ field_held before f c.loop-field.count c.cells_of_type.result c.loop-field.invariant c.cells_of_type.ensures
    ∙ ap (λ (fs : List FieldTy). capped (length (field_ranges (field_kinds_of fs)))) (sym more)

pub cells_of_type-returns-in-Array : goal.cells_of_type-returns-in-Array
cells_of_type-returns-in-Array t c =
    let each = c.in-Array.each in
    c.saturating_mul.ensures
    ∙ array_held c.in-Array.size (kind_of each) c.cells_of_type.result (c.cells_of_type.ensures ∙ ap (λ x. capped (cells (kind_of x))) c.get.ensures)
    ∙ ap (λ k. capped (cells k)) (sym (ap kind_of c.in-Array.is ∙ kind_of_array c.in-Array.size each))

pub cells_of_type-returns-in-Struct : goal.cells_of_type-returns-in-Struct
cells_of_type-returns-in-Struct t c =
    let fields = c.in-Struct.fields in
    c.cells_of_fields.ensures
    ∙ ap (λ (fs : List FieldTy). capped (length (field_ranges (field_kinds_of fs)))) c.as_slice.ensures
    ∙ ap (λ k. capped (cells k)) (sym (ap kind_of c.in-Struct.is ∙ kind_of_struct c.in-Struct.field-0 fields))
