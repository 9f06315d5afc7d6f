use Rattle.std.proofs.Common.{◌≡◌, ◌+◌, [], ◌∷◌, ◌++◌, true, false, take, sym, ap, ◌∙◌, arith}
use Rattle.std.proofs.lemmas.List.{take_more, take_all}
use Rattle.std.proofs.lemmas.Result.{err_from_is_err_and}
use Rattle.hll_meaning.specs.Types.{kind_of}
use Rattle.hll_meaning.specs.Declarations.{declared_kind, field_kinds}
use Rattle.hll_types.specs.Measures.{kind_measure}
use Rattle.hll_types.specs.Declaring.{field_faults}
use Rattle.hll_types.proofs.FieldsWalk.{fields_fault, fields_more, seen_more, measure_more, kinds_more, within}
use Rattle.hll_types.proofs.LargeKinds.{is_large_measure, fields_small, measure_less}
use Rattle.hll_types.proofs.Measuring.{measure-struct}
use Rattle.hll_types.proofs.declare.Declared.fields.Goals as goal
use Rattle.hll_types.proofs.declare.Declared.fields.Goals.{then-is_large, else-is_large}

pub returns-in_err-ty : goal.returns-in_err-ty
returns-in_err-ty c =
    let items = c.args.items.now in
    let i = c.loop-item.item-index in
    let e = c.item-item.result in
    let more : take (i + 1) items ≡ take i items ++ e ∷ [] = take_more items i e c.loop-item-test.true ∙ ap (λ x. take i items ++ x ∷ []) (sym c.item-item.is) in
    let p = err_from_is_err_and c.from_residual.result c.from_residual.ensures.1 in
    rw (p.1, p.2) (λ names further h.
    let inv = c.loop-item.invariant names further h in
    fields_fault names further items i e c.loop-item.before _ more inv.1 inv.0 (c.in_err-ty.ensures names further h))

pub loop-item-preserved : goal.loop-item-preserved
loop-item-preserved c = λ names further h.
    let items = c.args.items.now in
    let i = c.loop-item.item-index in
    let e = c.item-item.result in
    let more : take (i + 1) items ≡ take i items ++ e ∷ [] = take_more items i e c.loop-item-test.true ∙ ap (λ x. take i items ++ x ∷ []) (sym c.item-item.is) in
    let inv = c.loop-item.invariant names further h in
    let own = c.in_ok-ty.ensures names further h in
    let all = c.loop-item.all in
    let one = c.measure_of-one.result in
    let size : one ≡ kind_measure (declared_kind names e.ty e.of) = c.measure_of-one.ensures ∙ ap kind_measure own.2 in
    let name = c.in_ok-name.ensures ∙ c.bytes.ensures in (
      fields_more names further (take i items) (take (i + 1) items) e more inv.0 (ap (λ ns. field_faults names further ns e) (sym inv.1) ∙ own.0),
      seen_more (take i items) (take (i + 1) items) e c.loop-item.before _ more own.1 inv.1,
      (λ j. record { cells = c.saturating_add.ensures j; levels = c.max.ensures j }) ∙ measure_more names (take i items) (take (i + 1) items) e all one more inv.2 size,
      λ small.
          let less = measure_less all one ((λ j. is_large_measure (record { cells = sym c.saturating_add.ensures j; levels = sym c.max.ensures j })) ∙ small) (within all (field_kinds names (take i items)) inv.2) in
          let kept : c.if-is_large.kept ≡ c.in_ok-ty.ty =
          elim c.if-is_large.branch [
            | then-is_large w ↦ let both : true ≡ false = sym w.if-is_large.true ∙ c.is_large.ensures ∙ small in absurd (cc both)
            | else-is_large w ↦ w.kept-is
          ] in
          kinds_more names (take i items) (take (i + 1) items) e c.loop-item.fields _ (record { name = c.in_ok-name.name; ty = c.if-is_large.kept }) more c.in_ok-push.ensures.ok (inv.3 less) name (ap kind_of kept ∙ own.2),
    )

pub returns : goal.returns
returns c = λ names further h.
    let items = c.args.items.now in
    let all : take c.loop-item.item-index items ≡ items = take_all c.loop-item.item-index items (omega (arith, c.loop-item-test.false)) in
    let inv = rw all at (c.loop-item.invariant names further h) in
    let fields = field_kinds names items in (
      inv.0,
      (λ j. record { cells = c.loop-item.all.cells; levels = c.saturating_add-levels.ensures j }) ∙ measure-struct [] fields c.loop-item.all inv.2,
      λ small. inv.3 (fields_small fields c.loop-item.all inv.2 small),
    )
