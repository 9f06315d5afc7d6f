use Rattle.std.proofs.Common.{◌≤◌, ◌<◌, map, refl, sym, ap, subst, ◌∙◌, arith}
use Rattle.std.proofs.lemmas.Result.{IfOk-weaker}
use Rattle.hll_meaning.specs.Fitting.{apart, of_lengths, gathered, parts}
use Rattle.hll_meaning.specs.Kinds.{levels}
use Rattle.hll_meaning.specs.Types.{kind_of}
use Rattle.hll_meaning.proofs.KindForms.{field_kind}
use Rattle.hll_expressions.specs.Joining.{said}
use Rattle.hll_expressions.proofs.JoinLemmas.{list_with_cell, list_with_other, list_with_list, part_join_more, join_all, part_below}
use Rattle.hll_expressions.proofs.join.+joining.Goals as goal

pub join_parts-join-requires : goal.join_parts-join-requires
join_parts-join-requires t c =
    let below : levels (kind_of c.in-Some-Some.a.now) < levels (kind_of c.args.own.now) = part_below (kind_of c.args.own.now) c.loop-place.place (kind_of c.in-Some-Some.a.now) (sym c.in-Some-Some.ensures) in
    (omega (arith, below), tt)

pub join_parts-loop-place-init : goal.join_parts-loop-place-init
join_parts-loop-place-init t c = record { fields = ap (map field_kind) c.new.ensures; mismatched = refl; wide = refl; uneven = refl }

pub join_parts-loop-place-preserved : goal.join_parts-loop-place-preserved
join_parts-loop-place-preserved t c =
    part_join_more c.gather.new.all (parts (kind_of c.args.own.now)) (parts (kind_of c.args.given.now)) c.loop-place.place (kind_of c.in-Some-Some.a.now) (kind_of c.in-Some-Some.b.now) (said c.in_ok-next.next) (sym c.in-Some-Some.ensures) (sym c.in-Some-Some.ensures') c.in_ok-next.ensures
    (c.in_ok-gather.ensures _ c.loop-place.invariant)

pub join_parts-returns : goal.join_parts-returns
join_parts-returns t c =
    IfOk-weaker c.whole_of.result _ _ (λ j h. h ∙ ap gathered (join_all (parts (kind_of c.args.own.now)) (parts (kind_of c.args.given.now)) c.loop-place.place (subst (λ n. n ≤ c.loop-place.place) c.count-place-end.ensures c.loop-place-test.false))) (c.whole_of.ensures _ c.loop-place.invariant)

pub with_parts-returns-in_ok-copy : goal.with_parts-returns-in_ok-copy
with_parts-returns-in_ok-copy t c =
    c.apart.ensures ∙ ap (λ x. apart (kind_of x)) c.in_ok-copy.ensures ∙ sym (list_with_cell (kind_of c.args.own.now) (kind_of c.args.given.now) c.requires (sym c.is_scalar.ensures ∙ c.if-is_scalar.true))

pub with_parts-returns-then-count : goal.with_parts-returns-then-count
with_parts-returns-then-count t c =
    IfOk-weaker c.join_parts.result _ _
    (λ j h. h ∙ sym (list_with_list (kind_of c.args.own.now) (kind_of c.args.given.now) c.requires (sym c.is_scalar.ensures ∙ c.if-is_scalar.false) (sym c.count.ensures ∙ c.if-count.true ∙ c.count-else-is_scalar.ensures))) c.join_parts.ensures

pub with_parts-returns-in_ok-copy-2 : goal.with_parts-returns-in_ok-copy-2
with_parts-returns-in_ok-copy-2 t c =
    c.of_lengths.ensures ∙ ap (λ x. of_lengths (kind_of x)) (c.in_ok-copy-2).ensures ∙
    sym (list_with_other (kind_of c.args.own.now) (kind_of c.args.given.now) c.requires (sym c.is_scalar.ensures ∙ c.if-is_scalar.false) (λ same. c.if-count.false (c.count.ensures ∙ same ∙ sym c.count-else-is_scalar.ensures)))
