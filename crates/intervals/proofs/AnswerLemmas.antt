-- From what `new` answers to what the operations answer.
use Rattle.std.proofs.Common.{◌≡◌, ◌-◌, ◌^◌, ◌<◌, unsigned_abs, ℤ, pos, negsuc, ◌+ℤ◌, to_z, of_z, to_z-of_z, FitsSigned, ◌≤ℤ◌, ◌<ℤ◌, inl, inr, sym, subst, ⊎_elim, arith, Option, Some, None}
use Rattle.std.proofs.lemmas.Int.{ints, by_lt_z}
use Rattle.std.specs.Int.{w128}
use Rattle.std.specs.Int.Signed.{mag}
use Rattle.intervals.specs.Ends.{Ends, IsWide}
use Rattle.intervals.specs.Answers.{IsInterval, IsNew}
use Rattle.intervals.specs.declared.interval.Interval.{Interval}

pub ends_same : (e f : Ends) → e.lo ≡ f.lo → e.hi ≡ f.hi → e ≡ f
ends_same e f p q i = record { lo = p i; hi = q i }

not_above : (e : Ends) → e.lo ≤ℤ e.hi → ¬ (e.hi <ℤ e.lo)
not_above e h k = omega (arith, ints)

-- ends that are in order
in_order : (r : Option Interval) (e : Ends) → e.lo ≤ℤ e.hi → IsNew r e → IsInterval r e
in_order None e h n = ⊎_elim (λ out. absurd (not_above e h out)) (λ wide. wide) n
in_order (Some i) e h n = (n.0, n.2)

pub answered : (r : Option Interval) (e f : Ends) → f.lo ≤ℤ f.hi → e.lo ≡ f.lo → e.hi ≡ f.hi → IsNew r e → IsInterval r f
answered r e f h p q n = in_order r f h (subst (IsNew r) (ends_same e f p q) n)

-- how far the ends of an interval reach
pub record Bounded (lo hi : ℤ) : Type 0 where
  pub least : negsuc (2 ^ 63 - 1) ≤ℤ lo
  pub greatest : hi ≤ℤ pos (2 ^ 64 - 1)
  pub order : lo ≤ℤ hi
  pub distance : hi ≤ℤ (lo +ℤ pos (2 ^ 64 - 1))

narrow_least : (lo hi : ℤ) → lo ≤ℤ hi → ¬ (IsWide (record { lo = lo; hi = hi })) → ¬ (lo <ℤ negsuc (2 ^ 63 - 1))
narrow_least lo hi h n k = n (inl (omega (arith, ints)), inl k)

narrow_greatest : (lo hi : ℤ) → lo ≤ℤ hi → ¬ (IsWide (record { lo = lo; hi = hi })) → ¬ (pos (2 ^ 64 - 1) <ℤ hi)
narrow_greatest lo hi h n k = n (inr k, inr (omega (arith, ints)))

narrow_distance : (lo hi : ℤ) → lo ≤ℤ hi → ¬ (IsWide (record { lo = lo; hi = hi })) → ¬ ((lo +ℤ pos (2 ^ 64 - 1)) <ℤ hi)
narrow_distance lo hi h n k = by_lt_z lo (pos 0)
    (λ low. n (inl low, by_lt_z (pos (2 ^ 63 - 1)) hi (λ high. inr high) (λ high. inl (omega (arith, ints)))))
    (λ low. n (inr (omega (arith, ints)), inr (omega (arith, ints))))

not_below : (a b : ℤ) → ¬ (a <ℤ b) → b ≤ℤ a
not_below a b n = by_lt_z a b (λ h. absurd (n h)) (λ h. h)

pub bounded : (i : Interval) → Bounded i.lo i.hi
bounded i = record {
  least = not_below i.lo (negsuc (2 ^ 63 - 1)) (narrow_least i.lo i.hi i.ordered i.narrow);
  greatest = not_below (pos (2 ^ 64 - 1)) i.hi (narrow_greatest i.lo i.hi i.ordered i.narrow);
  order = i.ordered;
  distance = not_below (i.lo +ℤ pos (2 ^ 64 - 1)) i.hi (narrow_distance i.lo i.hi i.ordered i.narrow);
}

-- a number that the code passes on
pub back : (z : ℤ) → FitsSigned w128 z → to_z w128 (of_z w128 z) ≡ z
back z f = to_z-of_z f

-- an end that the code passes on is the end
pub back_lo : (i : Interval) → to_z w128 (of_z w128 i.lo) ≡ i.lo
back_lo i = let b = bounded i in omega (arith, ints)

pub back_hi : (i : Interval) → to_z w128 (of_z w128 i.hi) ≡ i.hi
back_hi i = let b = bounded i in omega (arith, ints)

pub none_wide : (r : Option Interval) (e : Ends) → r ≡ None → IsWide e → IsInterval r e
none_wide r e p w = subst (λ (o : Option Interval). IsInterval o e) (sym p) w

small : (z : ℤ) → negsuc (2 ^ 63 - 1) ≤ℤ z → z ≤ℤ pos (2 ^ 64 - 1) → (mag z < 2 ^ 64) × (unsigned_abs z < 2 ^ 127)
small (pos n) h k = omega (arith, ints)
small (negsuc n) h k = omega (arith, ints)

pub small_lo : (i : Interval) → (mag i.lo < 2 ^ 64) × (unsigned_abs i.lo < 2 ^ 127)
small_lo i = let b = bounded i in small i.lo b.least (omega (arith, ints))

pub small_hi : (i : Interval) → (mag i.hi < 2 ^ 64) × (unsigned_abs i.hi < 2 ^ 127)
small_hi i = let b = bounded i in small i.hi (omega (arith, ints)) b.greatest
