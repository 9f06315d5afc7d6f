-- The number of a constant that is described.
use Rattle.std.proofs.Common.{◌≡◌, ◌-◌, ◌^◌, ℤ, pos, negsuc, ◌≤ℤ◌, Bool, true, false, not, ◌&&◌, ◌||◌, [], Some, refl, sym, ap, subst, ◌∙◌, arith, int_lt}
use Rattle.std.proofs.lemmas.Int.{ints}
use Rattle.intervals.specs.Ends.{Ends, Holds}
use Rattle.intervals.specs.declared.interval.Interval.{Interval}
use Rattle.hll_meaning.specs.declared.fault.StaticKind.TheVariants as is
use Rattle.hll_meaning.specs.Kinds.{Kind, whole, IsOf}
use Rattle.hll_meaning.specs.Types.{ends}
use Rattle.hll_meaning.specs.Values.{number}
use Rattle.hll_meaning.specs.Fitting.{is_whole, is_wide}
use Rattle.hll_meaning.specs.Judging.{Judged, fault_if, wants_whole}
use Rattle.hll_meaning.proofs.Faultless.{neither}
use Rattle.hll_meaning.proofs.Numbers.{whole_holds}
use Rattle.hll_meaning.proofs.Scenes.{by_test}
use Rattle.hll_meaning.proofs.Wide.{narrow_so}
use Rattle.hll_expressions.specs.declared.faults.StaticFault.{StaticFault}
use Rattle.hll_expressions.specs.declared.given.Given.{Given}
use Rattle.hll_expressions.specs.Answers.{IsFaultAt}
use Rattle.hll_expressions.specs.Described.{known, number_of, Describes}
use Rattle.hll_expressions.proofs.FirstFaults.{fault_same}

-- ---- narrow ranges

low_end : (low lo x : ℤ) → int_lt lo low ≡ false → lo ≤ℤ x → low ≤ℤ x
low_end low lo x h k = omega (arith, ints)

high_end : (high hi x : ℤ) → int_lt high hi ≡ false → x ≤ℤ hi → x ≤ℤ high
high_end high hi x h k = omega (arith, ints)

least_signed : (x : ℤ) → pos 0 ≤ℤ x → negsuc (2 ^ 63 - 1) ≤ℤ x
least_signed x h = omega (arith, ints)

greatest_signed : (x : ℤ) → x ≤ℤ pos (2 ^ 63 - 1) → x ≤ℤ pos (2 ^ 64 - 1)
greatest_signed x h = omega (arith, ints)

-- the numbers of a range that isn't wide
pub narrow_number : (e : Ends) (x : ℤ) → is_wide e ≡ false → Holds e x → (negsuc (2 ^ 63 - 1) ≤ℤ x) × (x ≤ℤ pos (2 ^ 64 - 1))
narrow_number e x narrow holds =
    by_test (int_lt e.lo (pos 0) || int_lt (pos (2 ^ 64 - 1)) e.hi)
    (λ leaves. signed (neither (int_lt e.lo (negsuc (2 ^ 63 - 1))) (int_lt (pos (2 ^ 63 - 1)) e.hi)
    (sym (ap (λ b. b && (int_lt e.lo (negsuc (2 ^ 63 - 1)) || int_lt (pos (2 ^ 63 - 1)) e.hi)) leaves) ∙ narrow)))
    (λ lies. unsigned (neither (int_lt e.lo (pos 0)) (int_lt (pos (2 ^ 64 - 1)) e.hi) lies))
  where
    signed : (int_lt e.lo (negsuc (2 ^ 63 - 1)) ≡ false) × (int_lt (pos (2 ^ 63 - 1)) e.hi ≡ false) → (negsuc (2 ^ 63 - 1) ≤ℤ x) × (x ≤ℤ pos (2 ^ 64 - 1))
    signed h = (low_end (negsuc (2 ^ 63 - 1)) e.lo x h.0 holds.above, greatest_signed x (high_end (pos (2 ^ 63 - 1)) e.hi x h.1 holds.below))

    unsigned : (int_lt e.lo (pos 0) ≡ false) × (int_lt (pos (2 ^ 64 - 1)) e.hi ≡ false) → (negsuc (2 ^ 63 - 1) ≤ℤ x) × (x ≤ℤ pos (2 ^ 64 - 1))
    unsigned h = (least_signed x (low_end (pos 0) e.lo x h.0 holds.above), high_end (pos (2 ^ 64 - 1)) e.hi x h.1 holds.below)

-- ---- whole numbers

wants_same : (needs : Bool) (g : Given) (j : Judged) → Describes needs g j → wants_whole (known g) ≡ wants_whole j
wants_same needs g j d = (λ i. fault_if (not (is_whole (d.kind i))) is.Mismatch (d.place i))

-- a fault of what is known is one of what is described
pub wrong_number : (g : Given) (j : Judged) (f : StaticFault) → IsFaultAt (wants_whole (known g)) f → Describes true g j → IsFaultAt (wants_whole j) f
wrong_number g j f h d = fault_same (wants_whole (known g)) (wants_whole j) f (wants_same true g j d) h

-- the number is that of the value, and lies in a range that isn't wide
pub right_number : (g : Given) (j : Judged) (i : Interval) (x : ℤ) → (known g).kind ≡ whole (ends i) → number_of g ≡ Some x → Describes true g j →
    (wants_whole j ≡ []) × (x ≡ number j.value) × (negsuc (2 ^ 63 - 1) ≤ℤ x) × (x ≤ℤ pos (2 ^ 64 - 1))
right_number g j i x kind found d =
    let own : j.kind ≡ whole (ends i) = sym d.kind ∙ kind in
    let w = d.worth refl in
    let same : x ≡ number j.value = cc (sym found ∙ w.same) in
    let holds : Holds (ends i) (number j.value) = whole_holds (whole (ends i)) j.value refl (subst (λ (k : Kind). IsOf k j.value) own w.lies) in
    let near = narrow_number (ends i) (number j.value) (narrow_so (ends i) i.narrow) holds in (
      ap (λ (k : Kind). fault_if (not (is_whole k)) is.Mismatch j.at) own,
      same,
      subst (λ y. negsuc (2 ^ 63 - 1) ≤ℤ y) (sym same) near.0,
      subst (λ y. y ≤ℤ pos (2 ^ 64 - 1)) (sym same) near.1,
    )
