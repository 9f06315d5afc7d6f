-- Numbers that stand near ranges.
use Rattle.std.proofs.Common.{◌≡◌, ◌^◌, ◌-◌, ◌<◌, ℤ, pos, negsuc, neg_ℤ, ◌≤ℤ◌, Bool, true, false, ◌&&◌, ◌||◌, ◌⊎◌, inl, inr, ⊎_elim, refl, sym, ap, subst, ◌∙◌, arith, int_lt, unsigned_abs, FitsSigned}
use Rattle.std.proofs.lemmas.Int.{ints, fits_signed_from_abs}
use Rattle.std.specs.Int.{w128}
use Rattle.intervals.specs.Ends.{Ends, Holds}
use Rattle.intervals.specs.declared.interval.Interval.{Interval}
use Rattle.hll_meaning.specs.Types.{ends}
use Rattle.hll_meaning.specs.Kinds.{Kind, truth, Value, IsOf, truths}
use Rattle.hll_meaning.specs.Values.{number}
use Rattle.hll_meaning.specs.Fitting.{is_wide, is_scalar, ends_of}
use Rattle.hll_meaning.proofs.Faultless.{neither}
use Rattle.hll_meaning.proofs.Numbers.{holds_in, number_in}
use Rattle.hll_meaning.proofs.Wide.{narrow_so}
use Rattle.hll_expressions.specs.Chains.{IsNear}

not_lt : (a b : ℤ) → int_lt a b ≡ false → b ≤ℤ a
not_lt a b h = omega (arith, ints)

-- it lies in one of the two ranges
abbrev LiesIn : ℤ → ℤ → Ends → Type 0
LiesIn low high e = (low ≤ℤ e.lo) × (e.hi ≤ℤ high)

in_one : (e : Ends) → is_wide e ≡ false → LiesIn (pos 0) (pos (2 ^ 64 - 1)) e ⊎ LiesIn (negsuc (2 ^ 63 - 1)) (pos (2 ^ 63 - 1)) e
in_one e h = by (int_lt e.lo (pos 0) || int_lt (pos (2 ^ 64 - 1)) e.hi) refl
  where
    inside : (low high : ℤ) → (int_lt e.lo low || int_lt high e.hi) ≡ false → LiesIn low high e
    inside low high k = let p = neither (int_lt e.lo low) (int_lt high e.hi) k in (not_lt e.lo low p.0, not_lt high e.hi p.1)

    by : (b : Bool) → (int_lt e.lo (pos 0) || int_lt (pos (2 ^ 64 - 1)) e.hi) ≡ b → LiesIn (pos 0) (pos (2 ^ 64 - 1)) e ⊎ LiesIn (negsuc (2 ^ 63 - 1)) (pos (2 ^ 63 - 1)) e
    by false is = inl (inside (pos 0) (pos (2 ^ 64 - 1)) is)
    by true is = inr (inside (negsuc (2 ^ 63 - 1)) (pos (2 ^ 63 - 1)) (ap (λ x. x && (int_lt e.lo (negsuc (2 ^ 63 - 1)) || int_lt (pos (2 ^ 63 - 1)) e.hi)) (sym is) ∙ h))

-- a number of a range that isn't wide is near
pub near_of : (e : Ends) (x : ℤ) → is_wide e ≡ false → Holds e x → IsNear x
near_of e x h k = ⊎_elim (λ p. near_low (pos 0) (pos (2 ^ 64 - 1)) p (omega (arith, ints)) (omega (arith, ints))) (λ p. near_low (negsuc (2 ^ 63 - 1)) (pos (2 ^ 63 - 1)) p (omega (arith, ints)) (omega (arith, ints))) (in_one e h)
  where
    near_low : (low high : ℤ) → LiesIn low high e → neg_ℤ (pos (2 ^ 64)) ≤ℤ low → high ≤ℤ pos (2 ^ 64) → IsNear x
    near_low low high p a b = let l = k.above in let u = k.below in (omega (arith, ints), omega (arith, ints))

pub near_in : (i : Interval) (x : ℤ) → Holds (ends i) x → IsNear x
near_in i x h = near_of (ends i) x (narrow_so (ends i) i.narrow) h

near_size : (x : ℤ) → IsNear x → unsigned_abs x < 2 ^ 127
near_size (pos n) h = let a = h.1 in omega (arith, ints)
near_size (negsuc n) h = let a = h.0 in omega (arith, ints)

pub near_fits : (x : ℤ) → IsNear x → FitsSigned w128 x
near_fits x h = fits_signed_from_abs w128 x (near_size x h)

-- a value of one cell, whose range isn't wide, is near
pub cell_near : (k : Kind) (v : Value) → is_scalar k ≡ true → is_wide (ends_of k) ≡ false → IsOf k v → IsNear (number v)
cell_near k v s h of = near_of (ends_of k) (number v) h (holds_in (ends_of k) (number v) (number_in k v s of))

truths_narrow : is_wide truths ≡ false
truths_narrow = refl

-- so is a truth value
pub truth_near : (k : Kind) (v : Value) → k ≡ truth → IsOf k v → IsNear (number v)
truth_near k v is of = cell_near truth v refl truths_narrow (subst (λ k. IsOf k v) is of)
