-- That a value is of the kind that is said of it: of quantifiers.
use Rattle.std.proofs.Common.{◌≡◌, ℕ, zero, suc, ◌+◌, ◌≤◌, ℤ, pos, ◌+ℤ◌, ◌-ℤ◌, ◌≤ℤ◌, ◌<ℤ◌, true, false, List, [], ◌∷◌, map, length, fold, refl, sym, ap, subst, ◌∙◌, arith, int_lt, unsigned_abs}
use Rattle.std.specs.List.{AllByRecursion, range_with_len}
use Rattle.std.proofs.lemmas.Int.{ints, by_lt_z}
use Rattle.std.proofs.lemmas.List.{length-map}
use Rattle.std.proofs.lemmas.List.FromFn.{length-map-range_with_len}
use Rattle.intervals.specs.Ends.{Ends, Holds}
use Rattle.intervals.specs.Numbers.{total}
use Rattle.intervals.specs.Rules.{multiple}
use Rattle.intervals.proofs.Comparisons.{is_lt, is_le, is_not_le}
use Rattle.intervals.proofs.Soundness.{total_sound}
use Rattle.hll_tree.specs.declared.tree.Quant.{Quant}
use Rattle.hll_tree.specs.declared.tree.Quant.TheVariants as quant
use Rattle.hll_meaning.specs.Kinds.{Value, is_in, IsOf}
use Rattle.hll_meaning.specs.Values.{number, numbers, quantified_value}
use Rattle.hll_meaning.specs.Fitting.{ends_of}
use Rattle.hll_meaning.specs.Judging.{Context, In, Judged, Ranged, inside_bind, count_of, wants_body, quantified_kind, quantified_at}
use Rattle.hll_meaning.proofs.Faultless.{empty_parts, first_empty}
use Rattle.hll_meaning.proofs.Numbers.{in_holds, whole_holds, whole_of, truth_of}
use Rattle.hll_meaning.proofs.Lies.{Lies, is_wanted_whole}

-- ---- the numbers between ends

not_below_so : (a b : ℤ) → b ≤ℤ a → false ≡ int_lt a b
not_below_so a b h = omega (arith, ints)

numbers_some : (e : Ends) → e.lo ≤ℤ e.hi → numbers e ≡ map (λ k. e.lo +ℤ pos k) (range_with_len 0 (unsigned_abs (e.hi -ℤ e.lo) + 1))
numbers_some e h = rw (is_le e.lo e.hi h) refl

numbers_none : (e : Ends) → e.hi <ℤ e.lo → numbers e ≡ []
numbers_none e h = rw (is_not_le e.lo e.hi h) refl

count_some : (e : Ends) → e.lo ≤ℤ e.hi → count_of e ≡ unsigned_abs (e.hi -ℤ e.lo) + 1
count_some e h = rw (sym (not_below_so e.hi e.lo h)) refl

count_none : (e : Ends) → e.hi <ℤ e.lo → count_of e ≡ 0
count_none e h = rw (is_lt e.hi e.lo h) refl

pub numbers_count : (e : Ends) → length (numbers e) ≡ count_of e
numbers_count e =
    by_lt_z e.hi e.lo
    (λ h. ap length (numbers_none e h) ∙ sym (count_none e h))
    (λ h. ap length (numbers_some e h) ∙ length-map-range_with_len (λ k. e.lo +ℤ pos k) 0 (unsigned_abs (e.hi -ℤ e.lo) + 1) ∙ sym (count_some e h))

number_holds : (e : Ends) (a : ℕ) → e.lo ≤ℤ e.hi → a ≤ unsigned_abs (e.hi -ℤ e.lo) → Holds e (e.lo +ℤ pos a)
number_holds e a h k = record { above = omega (arith, ints); below = omega (arith, ints) }

numbers_from : (e : Ends) (a n : ℕ) → e.lo ≤ℤ e.hi → a + n ≤ unsigned_abs (e.hi -ℤ e.lo) + 1 → AllByRecursion (λ x. is_in e x ≡ true) (map (λ k. e.lo +ℤ pos k) (range_with_len a n))
numbers_from e a zero h k = tt
numbers_from e a (suc n) h k = (in_holds e (e.lo +ℤ pos a) (number_holds e a h (omega arith)), numbers_from e (a + 1) n h (omega arith))

pub numbers_between : (e : Ends) → AllByRecursion (λ x. is_in e x ≡ true) (numbers e)
numbers_between e =
    by_lt_z e.hi e.lo
    (λ h. subst (AllByRecursion (λ x. is_in e x ≡ true)) (sym (numbers_none e h)) tt)
    (λ h. subst (AllByRecursion (λ x. is_in e x ≡ true)) (sym (numbers_some e h)) (numbers_from e 0 (unsigned_abs (e.hi -ℤ e.lo) + 1) h (omega arith)))

-- ---- sums

regrouped : (x y z : ℤ) → (x +ℤ y) +ℤ z ≡ x +ℤ (y +ℤ z)
regrouped x y z = omega (arith, ints)

after_none : (x : ℤ) → x ≡ x +ℤ pos 0
after_none x = omega (arith, ints)

sum_from : (x : ℤ) (vs : List Value) → fold (λ x v. x +ℤ number v) x vs ≡ x +ℤ total (map number vs)
sum_from x [] = after_none x
sum_from x (v ∷ vs) = sum_from (x +ℤ number v) vs ∙ regrouped x (number v) (total (map number vs))

sum_is : (vs : List Value) → fold (λ x v. x +ℤ number v) (pos 0) vs ≡ total (map number vs)
sum_is vs = sum_from (pos 0) vs ∙ nothing_before (total (map number vs))
  where
    nothing_before : (x : ℤ) → pos 0 +ℤ x ≡ x
    nothing_before x = omega (arith, ints)

each_holds : (e a : Ends) (value : ℤ → Value) (xs : List ℤ) → ((x : ℤ) → is_in e x ≡ true → Holds a (number (value x))) → AllByRecursion (λ x. is_in e x ≡ true) xs → AllByRecursion (Holds a) (map number (map value xs))
each_holds e a value [] each all = tt
each_holds e a value (x ∷ xs) each all = (each x all.0, each_holds e a value xs each all.1)

sum_holds : (e a : Ends) (value : ℤ → Value) → ((x : ℤ) → is_in e x ≡ true → Holds a (number (value x))) → Holds (multiple (count_of e) a) (fold (λ x v. x +ℤ number v) (pos 0) (map value (numbers e)))
sum_holds e a value each =
    subst (Holds (multiple (count_of e) a)) (sym (sum_is (map value (numbers e))))
    (subst (λ n. Holds (multiple n a) (total (map number (map value (numbers e))))) (length-map (map value (numbers e)) number ∙ length-map (numbers e) value ∙ numbers_count e)
    (total_sound a (map number (map value (numbers e))) (each_holds e a value (numbers e) each (numbers_between e))))

-- ---- quantifiers

values_lie : (q : Quant) (e : Ends) (j : Judged) (value : ℤ → Value) → j.faults ≡ [] → wants_body q j ≡ [] → ((x : ℤ) → is_in e x ≡ true → Lies j (value x)) → IsOf (quantified_kind q e j.kind) (quantified_value q (map value (numbers e)))
values_lie quant.All e j value none wants each = truth_of _
values_lie quant.Any e j value none wants each = truth_of _
values_lie quant.Sum e j value none wants each =
    whole_of (multiple (count_of e) (ends_of j.kind)) _
    (sum_holds e (ends_of j.kind) value (λ x h. whole_holds j.kind (value x) (is_wanted_whole j wants) (each x h none)))

pub quantified_lies : (c : Context) (at : ℕ) (q : Quant) (name : List ℕ) (d : Ranged) (body : In Judged) (e : Ends) (value : ℤ → Value) →
    (d.faults ≡ [] → e ≡ ends_of d.kind) → ((x : ℤ) → d.faults ≡ [] → is_in (ends_of d.kind) x ≡ true → Lies (body (inside_bind name d.kind c)) (value x)) →
    Lies (quantified_at c at q name d body) (quantified_value q (map value (numbers e)))
quantified_lies c at q name d body e value same each none =
    let j = body (inside_bind name d.kind c) in
    let p = empty_parts d.faults _ none in
    let r = empty_parts j.faults _ p.1 in
    let w = first_empty (wants_body q j) _ r.1 in
    subst (λ (f : Ends). IsOf (quantified_kind q (ends_of d.kind) j.kind) (quantified_value q (map value (numbers f)))) (sym (same p.0))
    (values_lie q (ends_of d.kind) j value r.0 w (λ x h. each x p.0 h))
