use Rattle.std.proofs.Common.{◌≡◌, ℕ, suc, ◌+◌, ◌<◌, true, false, List, ◌∷◌, length, drop, drop-cons, get_or, option_map, refl, sym, ap, ◌∙◌, arith}
use Rattle.std.specs.Str.{bytes_eq}
use Rattle.hll_meaning.specs.declared.ty.FieldTy.{FieldTy}
use Rattle.hll_meaning.specs.Types.{kind_of}
use Rattle.hll_types.specs.Measures.{field_kinds_of}
use Rattle.cell_layout.specs.Parts.{held}
use Rattle.cell_layout.specs.Steps.{field_from}
use Rattle.cell_layout.proofs.HeldNumbers.{field_met, field_passed}
use Rattle.cell_layout.proofs.part.field_among.Goals as goal

-- the first of the fields that are left
first_left : (fields : List FieldTy) (i : ℕ) (f : FieldTy) → i < length fields → f ≡ get_or fields i f → drop i fields ≡ f ∷ drop (i + 1) fields
first_left fields i f below is = drop-cons fields i f below ∙ ap (λ (x : FieldTy). x ∷ drop (suc i) fields) (sym is) ∙ ap (λ (n : ℕ). f ∷ drop n fields) (let more : suc i ≡ i + 1 = omega arith in more)

pub returns-then-eq : goal.returns-then-eq
returns-then-eq c =
    let fields = c.args.fields.now in
    let i = c.loop-field.field-index in
    let f = c.field-item.result in
    let here : bytes_eq f.name c.args.name.now ≡ true = cc in
    field_met f.name (kind_of f.ty) (field_kinds_of (drop (i + 1) fields)) c.loop-field.next c.args.name.now here c.loop-field.invariant.small
    ∙ ap (λ (fs : List FieldTy). option_map held (field_from c.loop-field.next (field_kinds_of fs) c.args.name.now)) (sym (first_left fields i f c.loop-field-test.true c.field-item.is))
    ∙ c.loop-field.invariant.same

pub loop-field-init : goal.loop-field-init
loop-field-init c = record { small = c.ranges.start.fits; same = refl }

pub loop-field-preserved : goal.loop-field-preserved
loop-field-preserved c =
    let fields = c.args.fields.now in
    let i = c.loop-field.field-index in
    let f = c.field-item.result in
    let other : bytes_eq f.name c.args.name.now ≡ false = cc in
    record {
      small = c.saturating_add-next.type_inv;
      same =
          field_passed f.name (kind_of f.ty) (field_kinds_of (drop (i + 1) fields)) c.loop-field.next c.cells_of_type.result c.saturating_add-next.result c.args.name.now other c.cells_of_type.ensures c.saturating_add-next.ensures
          ∙ ap (λ (fs : List FieldTy). option_map held (field_from c.loop-field.next (field_kinds_of fs) c.args.name.now)) (sym (first_left fields i f c.loop-field-test.true c.field-item.is))
          ∙ c.loop-field.invariant.same;
    }
