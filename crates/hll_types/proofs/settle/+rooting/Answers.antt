use Rattle.std.proofs.Common.{◌≡◌, ◌+◌, [], ◌∷◌, ◌++◌, take, sym, ap, ◌∙◌}
use Rattle.std.proofs.lemmas.List.{take_more}
use Rattle.std.proofs.lemmas.Result.{IfOk-weaker}
use Rattle.hll_meaning.specs.Kinds.{element}
use Rattle.hll_meaning.specs.Types.{ends, kind_of}
use Rattle.hll_meaning.specs.declared.ty.Ty.{Struct}
use Rattle.hll_types.specs.Measures.{field_kinds_of}
use Rattle.hll_types.specs.Settling.{fields_in, kind_in, root_in}
use Rattle.hll_types.proofs.RootedThings.{bool_in, int_in, elem_in, array_in, struct_in, fields_more}
use Rattle.hll_types.proofs.settle.+rooting.Goals as goal

pub rooted_fields-loop-field-preserved : goal.rooted_fields-loop-field-preserved
rooted_fields-loop-field-preserved t c =
    let r = root_in c.args.sorts.now c.args.roots.now in
    let fields = c.args.fields.now in
    let i = c.loop-field.field-index in
    let f = c.field-item.result in
    let more : take (i + 1) fields ≡ take i fields ++ f ∷ [] = take_more fields i f c.loop-field-test.true ∙ ap (λ x. take i fields ++ x ∷ []) (sym c.field-item.is) in
    ap field_kinds_of c.in_ok-push.ensures.ok
    ∙ fields_more r c.loop-field.all (take i fields) _ f c.loop-field.invariant (c.in_ok-name.ensures ∙ c.bytes.ensures) c.in_ok-ty.ensures
    ∙ ap (λ fs. fields_in r (field_kinds_of fs)) (sym more)

pub with_root-returns-in-Bool : goal.with_root-returns-in-Bool
with_root-returns-in-Bool t c = bool_in (root_in c.args.sorts.now c.args.roots.now) c.args.ty.now c.in-Bool.is

pub with_root-returns-in-Int : goal.with_root-returns-in-Int
with_root-returns-in-Int t c = int_in (root_in c.args.sorts.now c.args.roots.now) c.args.ty.now c.in-Int.ends c.in-Int.is

pub with_root-returns-in-Elem : goal.with_root-returns-in-Elem
with_root-returns-in-Elem t c =
    let r = root_in c.args.sorts.now c.args.roots.now in
    IfOk-weaker c.rooted_element.result (λ u. kind_of u ≡ kind_in r (element c.in-Elem.sort (ends c.in-Elem.codes))) (λ u. kind_of u ≡ kind_in r (kind_of c.args.ty.now)) (λ k h. h ∙ elem_in r c.args.ty.now c.in-Elem.sort c.in-Elem.codes c.in-Elem.is) c.rooted_element.ensures

pub with_root-returns-in_ok-new-in-Array : goal.with_root-returns-in_ok-new-in-Array
with_root-returns-in_ok-new-in-Array t c =
    let r = root_in c.args.sorts.now c.args.roots.now in
    array_in r c.args.ty.now c.in-Array.count c.in-Array.each c.in_ok-new-in-Array.field-0 c.in-Array.is
    (ap kind_of c.in_ok-new-in-Array.ensures ∙ c.in_ok-each-in-Array.ensures ∙ ap (λ x. kind_in r (kind_of x)) c.get.ensures)

pub with_root-returns-in_ok-fields-in-Struct : goal.with_root-returns-in_ok-fields-in-Struct
with_root-returns-in_ok-fields-in-Struct t c =
    let r = root_in c.args.sorts.now c.args.roots.now in
    ap (λ n. kind_of (Struct n c.in_ok-fields-in-Struct.fields)) (c.in_ok-name-in-Struct.ensures ∙ c.bytes.ensures)
    ∙ struct_in r c.args.ty.now c.in-Struct.name c.in-Struct.fields c.in_ok-fields-in-Struct.fields c.in-Struct.is (c.in_ok-fields-in-Struct.ensures ∙ ap (λ fs. fields_in r (field_kinds_of fs)) c.as_slice.ensures)
