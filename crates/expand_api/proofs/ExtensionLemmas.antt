-- Longer and shorter lists with one value.
use Rattle.std.proofs.Common.{◌≡◌, ℕ, zero, suc, ◌+◌, ◌*◌, ◌-◌, ◌^◌, ◌<◌, ◌≤◌, Bool, true, false, List, [], ◌∷◌, ◌++◌, length, take, drop, replicate, ℤ, pos, neg_ℤ, ◌+ℤ◌, ◌-ℤ◌, ◌*ℤ◌, ◌≤ℤ◌, ◌<ℤ◌, ◌⊎◌, inl, inr, ⊎_elim, refl, sym, ap, subst, ◌∙◌, arith, length-append, unsigned_abs}
use Rattle.std.proofs.lemmas.Int.{ints}
use Rattle.std.proofs.lemmas.Bool.{cases_lt}
use Rattle.std.proofs.lemmas.List.{take_all, length-take-le, length-replicate}
use Rattle.std.proofs.lemmas.Nat.{pow-add}
use Rattle.std.proofs.Math.Nat.{pow-succ', pow-le-pow_right}
use Rattle.expand_api.specs.Digits.Values.{natural, sign, signed, widened, extended, IsSigned, IsCongruent, KeepsValue, CutsValue, code, CutsCode}
use Rattle.expand_api.proofs.CongruenceLemmas.{same_congruent, congruent_back, congruent_on, associate}
use Rattle.expand_api.proofs.ValueLemmas.{natural_below, weight, signed_within, signed_modulo, not_negative_at, negative_at, signed_is, natural_signed}
use Rattle.expand_api.proofs.SpellingLemmas.{either_value, natural_unique, digits_length, natural_spelled, distance_low}

-- ---- longer
pub natural_falses : (k : ℕ) → natural (replicate k false) ≡ 0
natural_falses zero = refl
natural_falses (suc k) = omega (arith, natural_falses k)

pub natural_widened : (k : ℕ) (xs : List Bool) → natural (widened k xs) ≡ natural xs
natural_widened k [] = natural_falses k
natural_widened k (x ∷ xs) = omega (arith, natural_widened k xs)

natural_trues : (k : ℕ) → natural (replicate k true) + 1 ≡ 2 ^ length (replicate k true)
natural_trues zero = refl
natural_trues (suc k) = omega (arith, natural_trues k, weight true (replicate k true))

natural_raised : (k : ℕ) (xs : List Bool) → natural (xs ++ replicate k true) + 2 ^ length xs ≡ natural xs + 2 ^ length (xs ++ replicate k true)
natural_raised k [] = omega (arith, natural_trues k)
natural_raised k (x ∷ xs) = omega (arith, natural_raised k xs, weight x xs, weight x (xs ++ replicate k true))

more_range : (p q : ℕ) (v : ℤ) → p ≤ q → neg_ℤ (pos p) ≤ℤ (v +ℤ v) → (v +ℤ v) <ℤ pos p → (neg_ℤ (pos q) ≤ℤ (v +ℤ v)) × ((v +ℤ v) <ℤ pos q)
more_range p q v h a b = (omega (arith, ints), omega (arith, ints))

-- a number of n digits is one of m digits, where there are more of these
pub signed_more : (n m : ℕ) (v : ℤ) → n ≤ m → IsSigned n v → IsSigned m v
signed_more n m v h r =
    let q : 2 ^ n ≤ 2 ^ m = pow-le-pow_right (omega arith) h in
    let more = more_range (2 ^ n) (2 ^ m) v q r.above r.below in
    record { above = more.0; below = more.1 }

raised_congruent : (a b p q : ℕ) (v : ℤ) → a + p ≡ b + q → v ≡ pos b -ℤ pos p → IsCongruent q (pos a) v
raised_congruent a b p q v e d = record { times = pos 1; same = omega (arith, ints) }

extended_congruent : (k : ℕ) (xs : List Bool) (s : Bool) → sign xs ≡ s → IsCongruent (2 ^ length (xs ++ replicate k s)) (pos (natural (xs ++ replicate k s))) (signed xs)
extended_congruent k xs false e = same_congruent _ _ _ (ap pos (natural_widened k xs) ∙ sym (not_negative_at xs e).value)
extended_congruent k xs true e =
    raised_congruent (natural (xs ++ replicate k true)) (natural xs) (2 ^ length xs) (2 ^ length (xs ++ replicate k true)) (signed xs) (natural_raised k xs) (negative_at xs e).value

pub signed_extended : (k : ℕ) (xs : List Bool) → signed (extended k xs) ≡ signed xs
signed_extended k xs =
    let l = length-append xs (replicate k (sign xs)) in
    signed_is (extended k xs) (signed xs) (extended_congruent k xs (sign xs) refl) (signed_more (length xs) (length (extended k xs)) (signed xs) (omega arith) (signed_within xs))

pub signed_widened : (k : ℕ) (xs : List Bool) → 0 < k → signed (widened k xs) ≡ pos (natural xs)
signed_widened k xs h =
    let l = length-append xs (replicate k false) in
    let m = length-replicate k false in
    signed_is (widened k xs) (pos (natural xs)) (same_congruent _ _ _ (ap pos (natural_widened k xs)))
    (signed_more (suc (length xs)) (length (widened k xs)) (pos (natural xs)) (omega (arith, l, m, h)) (natural_signed (length xs) (natural xs) (natural_below xs)))

pub keeps_value : (k : ℕ) (xs : List Bool) → KeepsValue k xs
keeps_value k xs = record { without_sign = natural_widened k xs; with_sign = signed_extended k xs; made_signed = signed_widened k xs }

-- ---- shorter
natural_parts : (k : ℕ) (xs : List Bool) → natural xs ≡ natural (take k xs) + 2 ^ k * natural (drop k xs)
natural_parts zero xs = omega arith
natural_parts (suc k) [] = omega arith
natural_parts (suc k) (x ∷ xs) = omega (arith, natural_parts k xs, ap (λ p. p * natural (drop k xs)) (pow-succ' 2 k))

no_more : (w t p d : ℕ) → w ≡ t + p * d → w < p → t ≡ w
no_more w t p zero e h = omega arith
no_more w t p (suc d) e h = absurd (omega arith)

pub natural_cut : (k : ℕ) (xs : List Bool) → natural xs < 2 ^ k → natural (take k xs) ≡ natural xs
natural_cut k xs h = no_more (natural xs) (natural (take k xs)) (2 ^ k) (natural (drop k xs)) (natural_parts k xs) h

parts_congruent : (w t p d : ℕ) → w ≡ t + p * d → IsCongruent p (pos w) (pos t)
parts_congruent w t p d e = record { times = pos d; same = omega (arith, ints) }

-- numbers that differ by a multiple of 2^n do so by one of 2^k, for fewer digits k
pub congruent_fewer : (k n : ℕ) (u v : ℤ) → k ≤ n → IsCongruent (2 ^ n) u v → IsCongruent (2 ^ k) u v
congruent_fewer k n u v h c =
    let s : n ≡ (n - k) + k = omega arith in
    let e : pos (2 ^ n) ≡ pos (2 ^ (n - k)) *ℤ pos (2 ^ k) = ap (λ m. pos (2 ^ m)) s ∙ ap pos (pow-add 2 (n - k) k) in
    record {
      times = c.times *ℤ pos (2 ^ (n - k));
      same = c.same ∙ ap (λ z. v +ℤ (c.times *ℤ z)) e ∙ ap (λ z. v +ℤ z) (sym (associate c.times (pos (2 ^ (n - k))) (pos (2 ^ k))));
    }

cut_short : (k : ℕ) (xs : List Bool) → k ≤ length xs → IsSigned k (signed xs) → signed (take k xs) ≡ signed xs
cut_short k xs h r =
    let l = length-take-le k xs h in
    let low = congruent_back (parts_congruent (natural xs) (natural (take k xs)) (2 ^ k) (natural (drop k xs)) (natural_parts k xs)) in
    let c = congruent_on low (congruent_back (congruent_fewer k (length xs) (signed xs) (pos (natural xs)) h (signed_modulo xs))) in
    signed_is (take k xs) (signed xs)
    (subst (λ n. IsCongruent (2 ^ n) (pos (natural (take k xs))) (signed xs)) (sym l) c)
    (subst (λ n. IsSigned n (signed xs)) (sym l) r)

pub signed_cut : (k : ℕ) (xs : List Bool) → IsSigned k (signed xs) → signed (take k xs) ≡ signed xs
signed_cut k xs r = ⊎_elim (λ h. cut_short k xs (omega arith) r) (λ h. ap signed (take_all k xs h)) (cases_lt k (length xs))

pub cuts_value : (k : ℕ) (xs : List Bool) → CutsValue k xs
cuts_value k xs = record { without_sign = natural_cut k xs; with_sign = signed_cut k xs }

-- ---- codes
distance_natural : (m p : ℕ) (u : ℤ) → m < p → (u ≡ pos m) ⊎ (u ≡ pos m -ℤ pos p) → pos 0 ≤ℤ u → m ≡ unsigned_abs u
distance_natural m p u h (inl e) k = omega (arith, ints)
distance_natural m p u h (inr e) k = omega (arith, ints)

distance_some : (v lo : ℤ) → lo ≤ℤ v → pos 0 ≤ℤ (v -ℤ lo)
distance_some v lo h = omega (arith, ints)

pub cuts_code : (n : ℕ) (lo v : ℤ) (xs : List Bool) → CutsCode n lo v xs
cuts_code n lo v xs low high l e =
    let some = subst (λ u. pos 0 ≤ℤ u) (sym e) (distance_some v lo low) in
    let m : natural xs ≡ unsigned_abs (signed xs) = distance_natural (natural xs) (2 ^ length xs) (signed xs) (natural_below xs) (either_value xs) some in
    let d : natural xs ≡ unsigned_abs (v -ℤ lo) = m ∙ ap unsigned_abs e in
    let h : unsigned_abs (v -ℤ lo) < 2 ^ n = distance_low v lo (2 ^ n) low high in
    natural_unique (take n xs) (code n lo v)
    (length-take-le n xs l ∙ sym (digits_length n (unsigned_abs (v -ℤ lo))))
    (natural_cut n xs (omega arith) ∙ d ∙ sym (natural_spelled n (unsigned_abs (v -ℤ lo)) h))
