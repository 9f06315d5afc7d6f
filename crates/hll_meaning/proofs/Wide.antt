-- Wide ranges, by a test and by a relation.
use Rattle.std.proofs.Common.{◌≡◌, ◌-◌, ◌^◌, inl, inr, ℤ, pos, negsuc, ◌<ℤ◌, Bool, true, false, ◌&&◌, ◌||◌, refl, arith, int_lt}
use Rattle.std.proofs.lemmas.Int.{ints}
use Rattle.intervals.specs.Ends.{Ends, Leaves, IsWide}
use Rattle.intervals.proofs.Comparisons.{is_lt}
use Rattle.hll_meaning.specs.Fitting.{is_wide}

-- one of the two is left
leaves_so : (low high : ℤ) (e : Ends) → Leaves low high e → (int_lt e.lo low || int_lt high e.hi) ≡ true
leaves_so low high e (inl h) = rw (is_lt e.lo low h) refl
leaves_so low high e (inr h) = either_true (int_lt e.lo low) (int_lt high e.hi) (is_lt high e.hi h)
  where
    either_true : (a b : Bool) → b ≡ true → (a || b) ≡ true
    either_true true b h = refl
    either_true false b h = h

-- a wide range is found so
pub wide_so : (e : Ends) → IsWide e → is_wide e ≡ true
wide_so e h = rw (leaves_so (pos 0) (pos (2 ^ 64 - 1)) e h.0) (leaves_so (negsuc (2 ^ 63 - 1)) (pos (2 ^ 63 - 1)) e h.1)

so_lt : (a b : ℤ) → int_lt a b ≡ true → a <ℤ b
so_lt a b h = omega (arith, ints)

leaves_of : (low high : ℤ) (e : Ends) → (int_lt e.lo low || int_lt high e.hi) ≡ true → Leaves low high e
leaves_of low high e h = by (int_lt e.lo low) refl h
  where
    by : (a : Bool) → int_lt e.lo low ≡ a → (a || int_lt high e.hi) ≡ true → Leaves low high e
    by true is h = inl (so_lt e.lo low is)
    by false is h = inr (so_lt high e.hi h)

-- what is found so is wide
pub narrow_so : (e : Ends) → ¬ (IsWide e) → is_wide e ≡ false
narrow_so e h = by (is_wide e) refl
  where
    both : (a b : Bool) → (a && b) ≡ true → (a ≡ true) × (b ≡ true)
    both true b h = (refl, h)
    both false b h = absurd (cc h)

    by : (b : Bool) → is_wide e ≡ b → b ≡ false
    by false is = refl
    by true is = absurd (h (leaves_of (pos 0) (pos (2 ^ 64 - 1)) e (both _ _ is).0, leaves_of (negsuc (2 ^ 63 - 1)) (pos (2 ^ 63 - 1)) e (both _ _ is).1))
