-- Differences, negation and absolute values.
use Rattle.std.proofs.Common.{◌≡◌, ℕ, suc, ◌+◌, ◌*◌, ◌^◌, ◌<◌, ◌≤◌, Bool, true, false, List, length, replicate, ℤ, pos, neg_ℤ, ◌+ℤ◌, ◌-ℤ◌, ◌≤ℤ◌, ◌<ℤ◌, ⊎_elim, refl, sym, ap, subst, ◌∙◌, arith, unsigned_abs}
use Rattle.std.proofs.lemmas.Int.{ints}
use Rattle.std.proofs.lemmas.Nat.{pow_pos}
use Rattle.std.proofs.lemmas.List.{length-replicate}
use Rattle.std.proofs.Math.Nat.{pow-succ'}
use Rattle.expand_api.specs.Digits.Values.{digit, natural, sign, signed, complement, extended, IsSigned, IsCongruent}
use Rattle.expand_api.specs.Digits.Choices.{choice}
use Rattle.expand_api.specs.Digits.Sums.{difference, no_borrow, negation, negation_where, absolute, Subtracts, SubtractsNaturals, Negates, TakesAbsolute}
use Rattle.expand_api.proofs.CongruenceLemmas.{same_congruent, congruent_back, congruent_on, congruent_sum, congruent_negation, exact}
use Rattle.expand_api.proofs.ValueLemmas.{natural_below, signed_within, signed_modulo, signed_is, IsNotNegative, IsNegative, signs}
use Rattle.expand_api.proofs.SpellingLemmas.{complement_length, natural_complement}
use Rattle.expand_api.proofs.ExtensionLemmas.{natural_falses, signed_extended}
use Rattle.expand_api.proofs.ChoiceLemmas.{choice_first, choice_second, choice_length}
use Rattle.expand_api.proofs.SumLemmas.{sum_length, sum_whole, sum_modulo, extended_length, extended_lengths}

complement_lengths : (xs ys : List Bool) → length xs ≡ length ys → length xs ≡ length (complement ys)
complement_lengths xs ys l = l ∙ sym (complement_length ys)

pub difference_length : (xs ys : List Bool) → length xs ≡ length ys → length (difference xs ys) ≡ length xs
difference_length xs ys l = sum_length xs (complement ys) true (complement_lengths xs ys l)

-- what n digits and the carry say of a difference without a sign
pub difference_whole : (xs ys : List Bool) → length xs ≡ length ys → natural (difference xs ys) + natural ys + digit (no_borrow xs ys) * 2 ^ length xs ≡ natural xs + 2 ^ length xs
difference_whole xs ys l =
    let p : 2 ^ length ys ≡ 2 ^ length xs = ap (λ n. 2 ^ n) (sym l) in
    omega (arith, sum_whole xs (complement ys) true (complement_lengths xs ys l), natural_complement ys)

-- ---- without a sign
borrow_from : (d x y p : ℕ) (c : Bool) → d + y + digit c * p ≡ x + p → d < p → x < y → c ≡ false
borrow_from d x y p true e h k = absurd (omega arith)
borrow_from d x y p false e h k = refl

no_borrow_from : (d x y p : ℕ) (c : Bool) → d + y + digit c * p ≡ x + p → d < p → y ≤ x → (c ≡ true) × (d + y ≡ x)
no_borrow_from d x y p true e h k = (refl, omega arith)
no_borrow_from d x y p false e h k = absurd (omega arith)

difference_below : (xs ys : List Bool) → length xs ≡ length ys → natural (difference xs ys) < 2 ^ length xs
difference_below xs ys l = let p = ap (λ n. 2 ^ n) (difference_length xs ys l) in omega (arith, natural_below (difference xs ys))

pub borrows : (xs ys : List Bool) → length xs ≡ length ys → natural xs < natural ys → no_borrow xs ys ≡ false
borrows xs ys l h = borrow_from (natural (difference xs ys)) (natural xs) (natural ys) (2 ^ length xs) (no_borrow xs ys) (difference_whole xs ys l) (difference_below xs ys l) h

pub needs_no_borrow : (xs ys : List Bool) → length xs ≡ length ys → natural ys ≤ natural xs → (no_borrow xs ys ≡ true) × (natural (difference xs ys) + natural ys ≡ natural xs)
needs_no_borrow xs ys l h = no_borrow_from (natural (difference xs ys)) (natural xs) (natural ys) (2 ^ length xs) (no_borrow xs ys) (difference_whole xs ys l) (difference_below xs ys l) h

pub subtracts_naturals : (xs ys : List Bool) → length xs ≡ length ys → SubtractsNaturals xs ys
subtracts_naturals xs ys l h = (needs_no_borrow xs ys l h).1

-- ---- two's complement
complement_modulo : (c y p : ℕ) → c + y + 1 ≡ p → IsCongruent p (pos c) (neg_ℤ (pos y) -ℤ pos 1)
complement_modulo c y p e = record { times = pos 1; same = omega (arith, ints) }

signed_complement : (ys : List Bool) → IsCongruent (2 ^ length ys) (signed (complement ys)) (neg_ℤ (signed ys) -ℤ pos 1)
signed_complement ys =
    let p = 2 ^ length ys in
    let m : IsCongruent p (signed (complement ys)) (pos (natural (complement ys))) = subst (λ n. IsCongruent (2 ^ n) (signed (complement ys)) (pos (natural (complement ys)))) (complement_length ys) (signed_modulo (complement ys)) in
    let c = complement_modulo (natural (complement ys)) (natural ys) p (natural_complement ys) in
    congruent_on (congruent_on m c) (congruent_sum (congruent_negation (congruent_back (signed_modulo ys))) (same_congruent p (neg_ℤ (pos 1)) (neg_ℤ (pos 1)) refl))

rearranged : (u v : ℤ) → (u +ℤ (neg_ℤ v -ℤ pos 1)) +ℤ pos 1 ≡ u -ℤ v
rearranged u v = omega (arith, ints)

pub difference_modulo : (xs ys : List Bool) → length xs ≡ length ys → IsCongruent (2 ^ length xs) (signed (difference xs ys)) (signed xs -ℤ signed ys)
difference_modulo xs ys l =
    let p = 2 ^ length xs in
    let y : IsCongruent p (signed (complement ys)) (neg_ℤ (signed ys) -ℤ pos 1) = subst (λ n. IsCongruent (2 ^ n) (signed (complement ys)) (neg_ℤ (signed ys) -ℤ pos 1)) (sym l) (signed_complement ys) in
    let s = sum_modulo xs (complement ys) true (complement_lengths xs ys l) in
    let t : IsCongruent p ((signed xs +ℤ signed (complement ys)) +ℤ pos 1) ((signed xs +ℤ (neg_ℤ (signed ys) -ℤ pos 1)) +ℤ pos 1) = congruent_sum (congruent_sum (same_congruent p (signed xs) (signed xs) refl) y) (same_congruent p (pos 1) (pos 1) refl) in
    congruent_on (congruent_on s t) (same_congruent p _ _ (rearranged (signed xs) (signed ys)))

pub difference_exact : (xs ys : List Bool) → length xs ≡ length ys → IsSigned (length xs) (signed xs -ℤ signed ys) → signed (difference xs ys) ≡ signed xs -ℤ signed ys
difference_exact xs ys l r =
    exact (length xs) _ _ (subst (λ n. IsSigned n (signed (difference xs ys))) (difference_length xs ys l) (signed_within (difference xs ys))) r (difference_modulo xs ys l)

difference_bounds : (p : ℕ) (u v : ℤ) → neg_ℤ (pos p) ≤ℤ (u +ℤ u) → (u +ℤ u) <ℤ pos p → neg_ℤ (pos p) ≤ℤ (v +ℤ v) → (v +ℤ v) <ℤ pos p → (neg_ℤ (pos (2 * p)) ≤ℤ ((u -ℤ v) +ℤ (u -ℤ v))) × (((u -ℤ v) +ℤ (u -ℤ v)) <ℤ pos (2 * p))
difference_bounds p u v a b c d = (omega (arith, ints), omega (arith, ints))

-- the difference of two numbers of n digits is a number of n + 1 digits
pub difference_signed : (n : ℕ) (u v : ℤ) → IsSigned n u → IsSigned n v → IsSigned (suc n) (u -ℤ v)
difference_signed n u v r s =
    let e : 2 ^ suc n ≡ 2 * 2 ^ n = pow-succ' 2 n in
    let b = difference_bounds (2 ^ n) u v r.above r.below s.above s.below in
    record {
      above = subst (λ k. neg_ℤ (pos k) ≤ℤ ((u -ℤ v) +ℤ (u -ℤ v))) (sym e) b.0;
      below = subst (λ k. ((u -ℤ v) +ℤ (u -ℤ v)) <ℤ pos k) (sym e) b.1;
    }

pub difference_one_more : (xs ys : List Bool) → length xs ≡ length ys → signed (difference (extended 1 xs) (extended 1 ys)) ≡ signed xs -ℤ signed ys
difference_one_more xs ys l =
    let u = signed_extended 1 xs in
    let v = signed_extended 1 ys in
    let e : signed (extended 1 xs) -ℤ signed (extended 1 ys) ≡ signed xs -ℤ signed ys = λ i. u i -ℤ v i in
    let r = difference_signed (length xs) (signed xs) (signed ys) (signed_within xs) (subst (λ n. IsSigned n (signed ys)) (sym l) (signed_within ys)) in
    difference_exact (extended 1 xs) (extended 1 ys) (extended_lengths xs ys l)
    (subst (IsSigned (length (extended 1 xs))) (sym e) (subst (λ n. IsSigned n (signed xs -ℤ signed ys)) (sym (extended_length xs)) r))
    ∙ e

pub subtracts : (xs ys : List Bool) → length xs ≡ length ys → Subtracts xs ys
subtracts xs ys l = record {
  as_many = difference_length xs ys l;
  modulo = difference_modulo xs ys l;
  exact = difference_exact xs ys l;
  one_more = difference_one_more xs ys l;
}

-- ---- negation
zero_signed : (p : ℕ) → 0 < p → (neg_ℤ (pos p) ≤ℤ pos 0) × (pos 0 <ℤ pos p)
zero_signed p h = (omega (arith, ints), omega (arith, ints))

pub signed_falses : (n : ℕ) → signed (replicate n false) ≡ pos 0
signed_falses n =
    let l = length-replicate n false in
    let z = zero_signed (2 ^ length (replicate n false)) (pow_pos (length (replicate n false))) in
    signed_is (replicate n false) (pos 0) (same_congruent _ _ _ (ap pos (natural_falses n))) (record { above = z.0; below = z.1 })

falses_length : (xs : List Bool) → length (replicate (length xs) false) ≡ length xs
falses_length xs = length-replicate (length xs) false

pub negation_length : (xs : List Bool) → length (negation xs) ≡ length xs
negation_length xs = difference_length (replicate (length xs) false) xs (falses_length xs) ∙ falses_length xs

from_zero : (u v : ℤ) → u ≡ pos 0 → u -ℤ v ≡ neg_ℤ v
from_zero u v e = omega (arith, ints)

pub negation_modulo : (xs : List Bool) → IsCongruent (2 ^ length xs) (signed (negation xs)) (neg_ℤ (signed xs))
negation_modulo xs =
    let d = subst (λ n. IsCongruent (2 ^ n) (signed (negation xs)) (signed (replicate (length xs) false) -ℤ signed xs)) (falses_length xs) (difference_modulo (replicate (length xs) false) xs (falses_length xs)) in
    congruent_on d (same_congruent _ _ _ (from_zero _ (signed xs) (signed_falses (length xs))))

pub negation_exact : (xs : List Bool) → IsSigned (length xs) (neg_ℤ (signed xs)) → signed (negation xs) ≡ neg_ℤ (signed xs)
negation_exact xs r = exact (length xs) _ _ (subst (λ n. IsSigned n (signed (negation xs))) (negation_length xs) (signed_within (negation xs))) r (negation_modulo xs)

negation_bounds : (p : ℕ) (v : ℤ) → 0 < p → neg_ℤ (pos p) ≤ℤ (v +ℤ v) → (v +ℤ v) <ℤ pos p → (neg_ℤ (pos (2 * p)) ≤ℤ (neg_ℤ v +ℤ neg_ℤ v)) × ((neg_ℤ v +ℤ neg_ℤ v) <ℤ pos (2 * p))
negation_bounds p v h a b = (omega (arith, ints), omega (arith, ints))

-- the negation of a number of n digits is a number of n + 1 digits
pub negation_signed : (n : ℕ) (v : ℤ) → IsSigned n v → IsSigned (suc n) (neg_ℤ v)
negation_signed n v r =
    let e : 2 ^ suc n ≡ 2 * 2 ^ n = pow-succ' 2 n in
    let b = negation_bounds (2 ^ n) v (pow_pos n) r.above r.below in
    record {
      above = subst (λ k. neg_ℤ (pos k) ≤ℤ (neg_ℤ v +ℤ neg_ℤ v)) (sym e) b.0;
      below = subst (λ k. (neg_ℤ v +ℤ neg_ℤ v) <ℤ pos k) (sym e) b.1;
    }

pub negation_one_more : (xs : List Bool) → signed (negation (extended 1 xs)) ≡ neg_ℤ (signed xs)
negation_one_more xs =
    let e : neg_ℤ (signed (extended 1 xs)) ≡ neg_ℤ (signed xs) = ap neg_ℤ (signed_extended 1 xs) in
    let r = negation_signed (length xs) (signed xs) (signed_within xs) in
    negation_exact (extended 1 xs) (subst (IsSigned (length (extended 1 xs))) (sym e) (subst (λ n. IsSigned n (neg_ℤ (signed xs))) (sym (extended_length xs)) r)) ∙ e

pub negates : (xs : List Bool) → Negates xs
negates xs = record { as_many = negation_length xs; modulo = negation_modulo xs; exact = negation_exact xs; one_more = negation_one_more xs }

-- ---- the absolute value
negation_natural : (d x p z : ℕ) (c : Bool) → d + x + digit c * p ≡ z + p → z ≡ 0 → 0 < x → x < p → d + x ≡ p
negation_natural d x p z true e f h k = absurd (omega arith)
negation_natural d x p z false e f h k = omega arith

-- the digits of -xs without a sign, where xs isn't 0
pub negation_whole : (xs : List Bool) → 0 < natural xs → natural (negation xs) + natural xs ≡ 2 ^ length xs
negation_whole xs h =
    let zs = replicate (length xs) false in
    let l = falses_length xs in
    let p = ap (λ n. 2 ^ n) l in
    let e = difference_whole zs xs l in
    let f = subst (λ q. natural (negation xs) + natural xs + digit (no_borrow zs xs) * q ≡ natural zs + q) p e in
    negation_natural (natural (negation xs)) (natural xs) (2 ^ length xs) (natural zs) (no_borrow zs xs) f (natural_falses (length xs)) h (natural_below xs)

negative_size : (d n p : ℕ) (v : ℤ) → d + n ≡ p → v ≡ pos n -ℤ pos p → d ≡ unsigned_abs v
negative_size d n p v e f = omega (arith, ints)

not_negative_size : (n : ℕ) (v : ℤ) → v ≡ pos n → n ≡ unsigned_abs v
not_negative_size n v e = omega (arith, ints)

pub where_true : (c : Bool) (xs : List Bool) → c ≡ true → negation_where c xs ≡ negation xs
where_true c xs e = ap (λ b. choice b (negation xs) xs) e ∙ choice_first (negation xs) xs (negation_length xs)

pub where_false : (c : Bool) (xs : List Bool) → c ≡ false → negation_where c xs ≡ xs
where_false c xs e = ap (λ b. choice b (negation xs) xs) e ∙ choice_second (negation xs) xs (negation_length xs)

pub where_length : (c : Bool) (xs : List Bool) → length (negation_where c xs) ≡ length xs
where_length c xs = choice_length c (negation xs) xs (negation_length xs) ∙ negation_length xs

absolute_negative : (xs : List Bool) → IsNegative xs → natural (absolute xs) ≡ unsigned_abs (signed xs)
absolute_negative xs c =
    let some = pow_pos (length xs) in
    ap natural (where_true (sign xs) xs c.sign_digit)
    ∙ negative_size (natural (negation xs)) (natural xs) (2 ^ length xs) (signed xs) (negation_whole xs (omega (arith, c.high))) c.value

pub absolute_size : (xs : List Bool) → natural (absolute xs) ≡ unsigned_abs (signed xs)
absolute_size xs =
    ⊎_elim
    (λ (c : IsNotNegative xs). ap natural (where_false (sign xs) xs c.sign_digit) ∙ not_negative_size (natural xs) (signed xs) c.value)
    (absolute_negative xs)
    (signs xs)

pub absolute_length : (xs : List Bool) → length (absolute xs) ≡ length xs
absolute_length xs = where_length (sign xs) xs

pub takes_absolute : (xs : List Bool) → TakesAbsolute xs
takes_absolute xs = record { as_many = absolute_length xs; size = absolute_size xs }
