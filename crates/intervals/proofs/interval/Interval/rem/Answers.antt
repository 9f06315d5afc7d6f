use Rattle.std.proofs.Common.{◌≡◌, ◌∙◌, ap, unsigned_abs, FitsSigned, ◌-ℤ◌, ◌≤ℤ◌, pos, ◌<ℤ◌, ◌⊎◌, inl, inr, arith, subst, sym}
use Rattle.std.proofs.lemmas.Int.{ints, clamps}
use Rattle.std.specs.Int.{w128, int_min, int_max}
use Rattle.intervals.specs.Rules.{greatest_size}
use Rattle.intervals.specs.Answers.{IsInterval, ends}
use Rattle.intervals.proofs.AnswerLemmas.{answered, back, back_lo, back_hi, bounded}
use Rattle.intervals.proofs.RemainderLemmas.{modulus_with_zero, modulus_without_zero, above_zero, below_zero, bounds_order, greatest_passed, least_passed, size_some}
use Rattle.intervals.proofs.interval.Interval.rem.Goals as goal
use Rattle.intervals.proofs.interval.Interval.rem.Goals.{else-other-le0-via-then-other-le0+else-other-ge0, else-other-le0-via-else-other-le0}

pub returns-then-other-ge0 : goal.returns-then-other-ge0
returns-then-other-ge0 c =
    let a = bounded c.args.self.now in
    let b = bounded c.args.other.now in
    subst (IsInterval c.new.result) (sym (modulus_with_zero (ends c.args.self.now) (ends c.args.other.now) (omega (arith, ints)) (omega (arith, ints))))
    (answered c.new.result _ _ (omega (arith, ints, clamps)) (omega (arith, ints, clamps)) (omega (arith, ints, clamps)) c.new.ensures)

apart : (g : goal.After-new-2) → (pos 0 <ℤ g.args.other.now.lo) ⊎ (g.args.other.now.hi <ℤ pos 0)
apart c =
    let b = c.args.other.now in
    elim c.else-other-le0.branch [
      | else-other-le0-via-then-other-le0+else-other-ge0 w ↦ inr (subst (λ z. z <ℤ pos 0) (back_hi b) (below_zero _ w.if-other-ge0.false))
      | else-other-le0-via-else-other-le0 w ↦ inl (subst (λ z. pos 0 <ℤ z) (back_lo b) (above_zero _ w.if-other-le0.false))
    ]

pub returns : goal.returns
returns c =
    let a = c.args.self.now in
    let b = c.args.other.now in
    let m = greatest_size (ends b) in
    let some = size_some (ends b) (apart c) in
    let lower = back c.abs.result (record { sfits = c.abs.type_inv }) ∙ c.abs.ensures.value ∙ ap (λ z. pos (unsigned_abs z)) (back_lo b) in
    let upper = back c.abs-2.result (record { sfits = c.abs-2.type_inv }) ∙ c.abs-2.ensures.value ∙ ap (λ z. pos (unsigned_abs z)) (back_hi b) in
    let size : c.max-size.result ≡ m = c.max-size.ensures.value ∙ (λ i. int_max (lower i) (upper i)) in
    let fits : FitsSigned w128 c.max-size.result = record { sfits = c.max-size.type_inv } in
    let here : pos 1 ≤ℤ c.max-size.result = subst (λ z. pos 1 ≤ℤ z) (sym size) some in
    let lo = back c.min-lo.result (record { sfits = c.min-lo.type_inv }) ∙ c.min-lo.ensures.value ∙ ap (λ z. int_min z (pos 0)) (back_lo a) in
    let hi = back c.max-hi.result (record { sfits = c.max-hi.type_inv }) ∙ c.max-hi.ensures.value ∙ ap (λ z. int_max z (pos 0)) (back_hi a) in
    let least = least_passed c.max-size.result fits here ∙ ap (λ z. pos 1 -ℤ z) size in
    let greatest = greatest_passed c.max-size.result fits here ∙ ap (λ z. z -ℤ pos 1) size in
    subst (IsInterval c.new-2.result) (sym (modulus_without_zero (ends a) (ends b) (apart c)))
    (answered c.new-2.result _ _ (bounds_order a.lo a.hi m some a.ordered)
    (back c.max.result (record { sfits = c.max.type_inv }) ∙ c.max.ensures.value ∙ (λ i. int_max (lo i) (least i)))
    (back c.min.result (record { sfits = c.min.type_inv }) ∙ c.min.ensures.value ∙ (λ i. int_min (hi i) (greatest i)))
    c.new-2.ensures)
