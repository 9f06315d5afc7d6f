-- Quotients of ends, and their hull.
use Rattle.std.proofs.Common.{◌≡◌, ℕ, zero, suc, ◌^◌, ◌<◌, ◌≤◌, ◌/◌, ℤ, pos, negsuc, neg_ℤ, ◌≤ℤ◌, ◌<ℤ◌, inl, refl, sym, ap, subst, ◌∙◌, arith, [], ◌∷◌, ◌++◌, FitsSigned, to_z, of_z, unsigned_abs, int_div}
use Rattle.std.proofs.Math.Nat.{div-le_self, div-zero}
use Rattle.std.proofs.lemmas.Int.{ints, clamps, by_lt_z, fits_signed_from_abs, quot_is}
use Rattle.std.specs.Int.{w128, int_min, int_max}
use Rattle.intervals.specs.declared.interval.Interval.{Interval}
use Rattle.intervals.specs.Ends.{Ends}
use Rattle.intervals.specs.Hulls.{extended}
use Rattle.intervals.specs.Rules.{end_quotients, ends_above_zero, ends_below_zero, zero_of, ratio}
use Rattle.intervals.specs.Numbers.{quotient}
use Rattle.intervals.proofs.AnswerLemmas.{back, back_hi, small_lo, small_hi}
use Rattle.intervals.proofs.HullLemmas.{Among, Among_right, extended_append, from_member, hull_holds}
use Rattle.intervals.proofs.Comparisons.{is_lt, is_le}

abs_neg : (n : ℕ) → unsigned_abs (neg_ℤ (pos n)) ≡ n
abs_neg zero = refl
abs_neg (suc n) = refl

-- a quotient is no greater in size than the dividend
pub abs_quotient-le : (a d : ℤ) → unsigned_abs (int_div a d) ≤ unsigned_abs a
abs_quotient-le (pos a) (pos b) = div-le_self a b
abs_quotient-le (pos a) (negsuc b) = omega (arith, abs_neg (a / suc b), div-le_self a (suc b))
abs_quotient-le (negsuc a) (pos b) = omega (arith, abs_neg (suc a / b), div-le_self (suc a) b)
abs_quotient-le (negsuc a) (negsuc b) = div-le_self (suc a) (suc b)

quotient_fits : (a d : ℤ) → unsigned_abs a < 2 ^ 127 → FitsSigned w128 (int_div a d)
quotient_fits a d h = fits_signed_from_abs w128 (int_div a d) (omega (arith, abs_quotient-le a d))

fits_lo : (i : Interval) → FitsSigned w128 i.lo
fits_lo i = fits_signed_from_abs w128 i.lo (small_lo i).1

fits_hi : (i : Interval) → FitsSigned w128 i.hi
fits_hi i = fits_signed_from_abs w128 i.hi (small_hi i).1

pub passed_lo : (i : Interval) (d : ℤ) → FitsSigned w128 d → to_z w128 (of_z w128 (int_div (to_z w128 (of_z w128 i.lo)) (to_z w128 (of_z w128 d)))) ≡ quotient i.lo d
passed_lo i d f = quot_is w128 i.lo d (fits_lo i) f (quotient_fits i.lo d (small_lo i).1)

pub passed_hi : (i : Interval) (d : ℤ) → FitsSigned w128 d → to_z w128 (of_z w128 (int_div (to_z w128 (of_z w128 i.hi)) (to_z w128 (of_z w128 d)))) ≡ quotient i.hi d
passed_hi i d f = quot_is w128 i.hi d (fits_hi i) f (quotient_fits i.hi d (small_hi i).1)

bits_some : (d : ℤ) → FitsSigned w128 d → ¬ (d ≡ pos 0) → 0 < of_z w128 d
bits_some (pos zero) f n = absurd (n refl)
bits_some (pos (suc k)) f n = omega arith
bits_some (negsuc k) f n = omega (arith, f.sfits)

pub can_divide_hi : (i : Interval) (d : ℤ) → FitsSigned w128 d → ¬ (d ≡ pos 0) → (0 < of_z w128 d) × FitsSigned w128 (int_div (to_z w128 (of_z w128 i.hi)) (to_z w128 (of_z w128 d)))
can_divide_hi i d f n =
    let p = sym (back_hi i) in
    let q = sym (back d f) in
    (bits_some d f n, subst (FitsSigned w128) (λ k. int_div (p k) (q k)) (quotient_fits i.hi d (small_hi i).1))

pub part_above : (e : Ends) → pos 0 <ℤ e.hi → ends_above_zero e ≡ int_max e.lo (pos 1) ∷ e.hi ∷ []
part_above e h = let p = is_lt (pos 0) e.hi h in rw p refl

pub part_below : (e : Ends) → e.lo <ℤ pos 0 → ends_below_zero e ≡ e.lo ∷ int_min e.hi (negsuc 0) ∷ []
part_below e h = let p = is_lt e.lo (pos 0) h in rw p refl

pub zero_held : (e : Ends) → e.lo ≤ℤ pos 0 → pos 0 ≤ℤ e.hi → zero_of e ≡ pos 0 ∷ []
zero_held e h k = let p = is_le e.lo (pos 0) h in let q = is_le (pos 0) e.hi k in rw (p, q) refl

-- by 0 a quotient is 0
pub quotient_by_zero : (a : ℤ) → quotient a (pos 0) ≡ pos 0
quotient_by_zero (pos a) = ap pos (div-zero a)
quotient_by_zero (negsuc a) = ap (λ n. neg_ℤ (pos n)) (div-zero (suc a))

-- the quotient of the lower ends is one of those that the rule takes
pub first_among : (a b : Ends) → b.lo ≤ℤ b.hi → Among (quotient a.lo b.lo) (end_quotients a (ends_below_zero b) ++ (end_quotients a (ends_above_zero b) ++ zero_of b))
first_among a b h =
    let q = quotient a.lo b.lo in
    let rest = end_quotients a (ends_above_zero b) ++ zero_of b in
    by_lt_z b.lo (pos 0)
    (λ low. subst (λ ds. Among q (end_quotients a ds ++ rest)) (sym (part_below b low)) (inl refl))
    (λ some. Among_right q (end_quotients a (ends_below_zero b)) rest
    (by_lt_z (pos 0) b.lo
    (λ high.
    let same : b.lo ≡ int_max b.lo (pos 1) = omega (arith, ints, clamps) in
    subst (λ ds. Among q (end_quotients a ds ++ zero_of b)) (sym (part_above b (omega (arith, ints)))) (inl (ap (quotient a.lo) same)))
    (λ none.
    let zeroed : b.lo ≡ pos 0 = omega (arith, ints) in
    Among_right q (end_quotients a (ends_above_zero b)) (zero_of b)
    (subst (Among q) (sym (zero_held b none (omega (arith, ints)))) (inl (ap (quotient a.lo) zeroed ∙ quotient_by_zero a.lo))))))

-- the quotients taken one part after another, from one of them on
pub quotients_taken : (a b e f g h : Ends) → b.lo ≤ℤ b.hi → e ≡ record { lo = quotient a.lo b.lo; hi = quotient a.lo b.lo } → f ≡ extended e (end_quotients a (ends_below_zero b)) → g ≡ extended f (end_quotients a (ends_above_zero b)) → h ≡ extended g (zero_of b) → h ≡ ratio a b
quotients_taken a b e f g h order first below above held =
    let xs = end_quotients a (ends_below_zero b) in
    let ys = end_quotients a (ends_above_zero b) in
    let q = quotient a.lo b.lo in
    let start : Ends = record { lo = q; hi = q } in
    held
    ∙ ap (λ (x : Ends). extended x (zero_of b)) (above ∙ ap (λ (x : Ends). extended x ys) (below ∙ ap (λ (x : Ends). extended x xs) first))
    ∙ extended_append (extended start xs) ys (zero_of b)
    ∙ extended_append start xs (ys ++ zero_of b)
    ∙ from_member q (xs ++ (ys ++ zero_of b)) (first_among a b order)

pub ratio_order : (a b : Ends) → b.lo ≤ℤ b.hi → (ratio a b).lo ≤ℤ (ratio a b).hi
ratio_order a b h = let x = hull_holds _ (end_quotients a (ends_below_zero b) ++ (end_quotients a (ends_above_zero b) ++ zero_of b)) (first_among a b h) in omega (arith, ints, x.above, x.below)
