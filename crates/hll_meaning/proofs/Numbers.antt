-- Numbers between ends, and values of one cell.
use Rattle.std.proofs.Common.{◌≡◌, ℤ, ◌≤ℤ◌, Bool, true, false, [], ◌∷◌, refl, ap, arith, int_le}
use Rattle.std.proofs.lemmas.Int.{ints}
use Rattle.intervals.specs.Ends.{Ends, Holds}
use Rattle.intervals.proofs.Comparisons.{is_le}
use Rattle.hll_meaning.specs.Kinds.{Kind, truth, whole, element, array, struct, Value, is_in, IsOf}
use Rattle.hll_meaning.specs.Values.{of_number, of_truth, number}
use Rattle.hll_meaning.specs.Fitting.{is_whole, is_scalar, ends_of}
use Rattle.hll_meaning.proofs.Faultless.{a_whole, both}

-- the test and the relation say the same
le_of_test : (a b : ℤ) → int_le a b ≡ true → a ≤ℤ b
le_of_test a b h = omega (arith, ints)

pub holds_in : (e : Ends) (x : ℤ) → is_in e x ≡ true → Holds e x
holds_in e x h = let p = both (int_le e.lo x) (int_le x e.hi) h in record { above = le_of_test e.lo x p.0; below = le_of_test x e.hi p.1 }

pub in_holds : (e : Ends) (x : ℤ) → Holds e x → is_in e x ≡ true
in_holds e x h = rw (is_le e.lo x h.above, is_le x e.hi h.below) refl

-- a number lies between itself and itself
pub itself : (x : ℤ) → Holds (record { lo = x; hi = x }) x
itself x = record { above = omega (arith, ints); below = omega (arith, ints) }

-- a value of one cell
pub one_of : (k : Kind) (x : ℤ) → is_scalar k ≡ true → is_in (ends_of k) x ≡ true → IsOf k (x ∷ [])
one_of truth x s h = (h, tt)
one_of (whole e) x s h = (h, tt)
one_of (element root e) x s h = (h, tt)
one_of (array n k) x s h = absurd (cc s)
one_of (struct name fields) x s h = absurd (cc s)

-- the number of a value of one cell
pub number_in : (k : Kind) (v : Value) → is_scalar k ≡ true → IsOf k v → is_in (ends_of k) (number v) ≡ true
number_in truth [] s h = absurd h
number_in truth (x ∷ v) s h = h.0
number_in (whole e) [] s h = absurd h
number_in (whole e) (x ∷ v) s h = h.0
number_in (element root e) [] s h = absurd h
number_in (element root e) (x ∷ v) s h = h.0
number_in (array n k) v s h = absurd (cc s)
number_in (struct name fields) v s h = absurd (cc s)

whole_scalar : (k : Kind) → is_whole k ≡ true → is_scalar k ≡ true
whole_scalar k h = ap is_scalar (a_whole k h)

-- a whole number lies between the ends of its kind
pub whole_holds : (k : Kind) (v : Value) → is_whole k ≡ true → IsOf k v → Holds (ends_of k) (number v)
whole_holds k v w h = holds_in (ends_of k) (number v) (number_in k v (whole_scalar k w) h)

pub whole_of : (e : Ends) (x : ℤ) → Holds e x → IsOf (whole e) (of_number x)
whole_of e x h = (in_holds e x h, tt)

-- a truth value is 1 or 0
pub truth_of : (b : Bool) → IsOf truth (of_truth b)
truth_of true = (refl, tt)
truth_of false = (refl, tt)
