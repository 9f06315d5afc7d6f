use Rattle.std.proofs.Common.{◌≡◌, ◌+◌, [], ◌∷◌, ◌++◌, map, take, sym, ap, subst, ◌∙◌}
use Rattle.std.specs.Prelude.{codes, decimal, OnOk}
use Rattle.std.proofs.lemmas.List.{append-nil, take_more}
use Rattle.hll_tree.specs.Printing.{name_text}
use Rattle.hll_meaning.specs.Cells.{field_cells, named_cells}
use Rattle.hll_meaning.specs.Kinds.{array, element, struct, Kind}
use Rattle.hll_meaning.specs.Types.{ends, kind_of}
use Rattle.hll_meaning.proofs.KindForms.{kind_of_bool, kind_of_int, kind_of_elem, kind_of_array, kind_of_struct}
use Rattle.cell_columns.specs.Columns.{cell_of, fields_kinds}
use Rattle.cell_columns.proofs.CellParts.{appended_more, elements_more, fields_more}
use Rattle.cell_columns.proofs.columns.+walking.Goals as goal

pub push_elements-loop-place-init : goal.push_elements-loop-place-init
push_elements-loop-place-init t c = sym (append-nil (map cell_of c.args.columns.now.items))

pub push_elements-loop-place-preserved : goal.push_elements-loop-place-preserved
push_elements-loop-place-preserved t c =
    let name = c.args.name.now in
    let k = kind_of c.args.each.now in
    let i = c.loop-place.place in
    appended_more (map cell_of c.args.columns.now.items) (map cell_of c.loop-place.columns.items) (map cell_of c.push_cells.new.columns.items)
    (named_cells name (array i k)) (named_cells (name ++ codes "[" ++ decimal i ++ codes "]") k) (named_cells name (array (i + 1) k))
    c.loop-place.invariant
    (c.in_ok-push_cells.ensures ∙ ap (λ n. map cell_of c.loop-place.columns.items ++ named_cells n k) (c.as_slice.ensures.value ∙ c.in_ok-element.ensures))
    (elements_more name k i)

pub push_fields-loop-field-init : goal.push_fields-loop-field-init
push_fields-loop-field-init t c = sym (append-nil (map cell_of c.args.columns.now.items))

pub push_fields-loop-field-preserved : goal.push_fields-loop-field-preserved
push_fields-loop-field-preserved t c =
    let name = c.args.name.now in
    let fields = c.args.fields.now in
    let before = take c.loop-field.field-index fields in
    let f = c.field-item.result in
    let more : take (c.loop-field.field-index + 1) fields ≡ before ++ f ∷ [] =
    take_more fields c.loop-field.field-index f c.loop-field-test.true ∙ ap (λ x. before ++ x ∷ []) (sym c.field-item.is) in
    let own = c.as_slice.ensures.value ∙ c.in_ok-own.ensures ∙ ap (λ n. name ++ codes "." ++ name_text n) c.bytes.ensures in
    appended_more (map cell_of c.args.columns.now.items) (map cell_of c.loop-field.columns.items) (map cell_of c.push_cells.new.columns.items)
    (field_cells name (fields_kinds before)) (named_cells (name ++ codes "." ++ name_text f.name) (kind_of f.ty)) (field_cells name (fields_kinds (take (c.loop-field.field-index + 1) fields)))
    c.loop-field.invariant
    (c.in_ok-push_cells.ensures ∙ ap (λ n. map cell_of c.loop-field.columns.items ++ named_cells n (kind_of f.ty)) own)
    (ap (λ fs. field_cells name (fields_kinds fs)) more ∙ fields_more name before f)

pub push_cells-returns-in-Bool : goal.push_cells-returns-in-Bool
push_cells-returns-in-Bool t c =
    let P : Kind → Type 0 = λ k. OnOk c.push_column.result (map cell_of c.push_column.new.columns.items ≡ map cell_of c.args.columns.now.items ++ named_cells c.args.name.now k) in
    subst P (sym (ap kind_of c.in-Bool.is ∙ kind_of_bool)) c.push_column.ensures

pub push_cells-returns-in-Int : goal.push_cells-returns-in-Int
push_cells-returns-in-Int t c =
    let P : Kind → Type 0 = λ k. OnOk c.push_column-in-Int.result (map cell_of c.push_column-in-Int.new.columns.items ≡ map cell_of c.args.columns.now.items ++ named_cells c.args.name.now k) in
    subst P (sym (ap kind_of c.in-Int.is ∙ kind_of_int _)) c.push_column-in-Int.ensures

pub push_cells-returns-in_ok-root-in-Elem : goal.push_cells-returns-in_ok-root-in-Elem
push_cells-returns-in_ok-root-in-Elem t c =
    let P : Kind → Type 0 = λ k. OnOk c.push_column-in-Elem.result (map cell_of c.push_column-in-Elem.new.columns.items ≡ map cell_of c.args.columns.now.items ++ named_cells c.args.name.now k) in
    let root : c.in_ok-root-in-Elem.root ≡ c.in-Elem.root = c.in_ok-root-in-Elem.ensures ∙ c.bytes.ensures in
    let same = ap (λ r. element r (ends c.in-Elem.codes)) root ∙ sym (ap kind_of c.in-Elem.is ∙ kind_of_elem c.in-Elem.root c.in-Elem.codes) in
    subst P same c.push_column-in-Elem.ensures

pub push_cells-returns-in-Array : goal.push_cells-returns-in-Array
push_cells-returns-in-Array t c =
    let P : Kind → Type 0 = λ k. OnOk c.push_elements.result (map cell_of c.push_elements.new.columns.items ≡ map cell_of c.args.columns.now.items ++ named_cells c.args.name.now k) in
    let same = ap (λ x. array c.in-Array.size (kind_of x)) c.get.ensures ∙ sym (ap kind_of c.in-Array.is ∙ kind_of_array c.in-Array.size c.in-Array.each) in
    subst P same c.push_elements.ensures

pub push_cells-returns-in-Struct : goal.push_cells-returns-in-Struct
push_cells-returns-in-Struct t c =
    let P : Kind → Type 0 = λ k. OnOk c.push_fields.result (map cell_of c.push_fields.new.columns.items ≡ map cell_of c.args.columns.now.items ++ named_cells c.args.name.now k) in
    let same = ap (λ fs. struct c.in-Struct.field-0 (fields_kinds fs)) c.as_slice.ensures ∙ sym (ap kind_of c.in-Struct.is ∙ kind_of_struct c.in-Struct.field-0 c.in-Struct.fields) in
    subst P same c.push_fields.ensures
