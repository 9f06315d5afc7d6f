-- The rule of remainders, by whether the divisor holds 0.
use Rattle.std.proofs.Common.{◌≡◌, ℤ, pos, negsuc, ◌≤ℤ◌, ◌<ℤ◌, ◌-ℤ◌, ◌⊎◌, ⊎_elim, refl, ap, ◌∙◌, Bool, true, false, ◌&&◌, inl, inr, unsigned_abs, FitsSigned, to_z, of_z, arith}
use Rattle.std.proofs.lemmas.Int.{ints, clamps}
use Rattle.std.specs.Int.{w128, int_min, int_max}
use Rattle.std.specs.Int.RustNames.{int_le}
use Rattle.intervals.specs.Ends.{Ends}
use Rattle.intervals.proofs.AnswerLemmas.{back}
use Rattle.intervals.specs.Rules.{modulus, greatest_size, holds_zero}
use Rattle.intervals.proofs.Comparisons.{is_le, is_not_le}

and_false : (t : Bool) → t && false ≡ false
and_false true = refl
and_false false = refl

pub modulus_with_zero : (a b : Ends) → b.lo ≤ℤ pos 0 → pos 0 ≤ℤ b.hi → modulus a b ≡ record { lo = int_min a.lo (pos 0); hi = int_max a.hi (pos 0) }
modulus_with_zero a b h k = let p = is_le b.lo (pos 0) h in let q = is_le (pos 0) b.hi k in rw (p, q) refl

no_zero : (b : Ends) → (pos 0 <ℤ b.lo) ⊎ (b.hi <ℤ pos 0) → holds_zero b ≡ false
no_zero b o = ⊎_elim
    (λ high. ap (λ t. t && int_le (pos 0) b.hi) (is_not_le b.lo (pos 0) high))
    (λ low. ap (λ t. int_le b.lo (pos 0) && t) (is_not_le (pos 0) b.hi low) ∙ and_false (int_le b.lo (pos 0)))
    o

pub modulus_without_zero : (a b : Ends) → (pos 0 <ℤ b.lo) ⊎ (b.hi <ℤ pos 0) → modulus a b ≡ record { lo = int_max (int_min a.lo (pos 0)) (pos 1 -ℤ greatest_size b); hi = int_min (int_max a.hi (pos 0)) (greatest_size b -ℤ pos 1) }
modulus_without_zero a b o = rw (no_zero b o) refl

pub above_zero : (z : ℤ) → int_le z (pos 0) ≡ false → pos 0 <ℤ z
above_zero z h = omega (arith, ints)

pub below_zero : (z : ℤ) → int_le (pos 0) z ≡ false → z <ℤ pos 0
below_zero z h = omega (arith, ints)

-- the bounds by the divisor's size, as the code computes them
pub least_passed : (m : ℤ) → FitsSigned w128 m → pos 1 ≤ℤ m → to_z w128 (of_z w128 (pos 1 -ℤ to_z w128 (of_z w128 m))) ≡ pos 1 -ℤ m
least_passed m f h =
    let p = back m f in
    (λ i. to_z w128 (of_z w128 (pos 1 -ℤ p i))) ∙ back (pos 1 -ℤ m) (omega (arith, ints))

pub greatest_passed : (m : ℤ) → FitsSigned w128 m → pos 1 ≤ℤ m → to_z w128 (of_z w128 (to_z w128 (of_z w128 m) -ℤ pos 1)) ≡ m -ℤ pos 1
greatest_passed m f h =
    let p = back m f in
    (λ i. to_z w128 (of_z w128 (p i -ℤ pos 1))) ∙ back (m -ℤ pos 1) (omega (arith, ints))

abs_some : (z : ℤ) → (pos 0 <ℤ z) ⊎ (z <ℤ pos 0) → pos 1 ≤ℤ pos (unsigned_abs z)
abs_some (pos n) (inl h) = omega (arith, ints)
abs_some (pos n) (inr h) = omega (arith, ints)
abs_some (negsuc n) o = omega (arith, ints)

le_left : (a b : ℤ) → pos 1 ≤ℤ a → pos 1 ≤ℤ int_max a b
le_left a b h = omega (arith, ints, clamps)

le_right : (a b : ℤ) → pos 1 ≤ℤ b → pos 1 ≤ℤ int_max a b
le_right a b h = omega (arith, ints, clamps)

-- without 0 the greatest size is 1 at least
pub size_some : (b : Ends) → (pos 0 <ℤ b.lo) ⊎ (b.hi <ℤ pos 0) → pos 1 ≤ℤ greatest_size b
size_some b o = ⊎_elim
    (λ high. le_left (pos (unsigned_abs b.lo)) (pos (unsigned_abs b.hi)) (abs_some b.lo (inl high)))
    (λ low. le_right (pos (unsigned_abs b.lo)) (pos (unsigned_abs b.hi)) (abs_some b.hi (inr low)))
    o

pub bounds_order : (l h m : ℤ) → pos 1 ≤ℤ m → l ≤ℤ h → int_max (int_min l (pos 0)) (pos 1 -ℤ m) ≤ℤ int_min (int_max h (pos 0)) (m -ℤ pos 1)
bounds_order l h m some order = omega (arith, ints, clamps)
