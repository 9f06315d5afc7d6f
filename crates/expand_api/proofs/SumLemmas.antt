-- Sums by ripple carry.
use Rattle.std.proofs.Common.{◌≡◌, ℕ, suc, ◌+◌, ◌*◌, ◌^◌, ◌<◌, Bool, true, false, List, [], ◌∷◌, ◌++◌, length, ℤ, pos, neg_ℤ, ◌+ℤ◌, ◌≤ℤ◌, ◌<ℤ◌, refl, sym, ap, subst, ◌∙◌, arith}
use Rattle.std.proofs.lemmas.Int.{ints}
use Rattle.std.proofs.Math.Nat.{pow-succ'}
use Rattle.expand_api.specs.Digits.Values.{digit, natural, sign, signed, extended, IsSigned, IsCongruent}
use Rattle.expand_api.specs.Digits.Sums.{exclusive_or, majority, sum, carry_out, AddsDigits, GrowsSum, AddsNaturals, AddsSigned}
use Rattle.expand_api.proofs.CongruenceLemmas.{same_congruent, congruent_back, congruent_on, congruent_sum, exact}
use Rattle.expand_api.proofs.ValueLemmas.{digit_below, digit_twice, length_more, natural_more, signed_within, signed_modulo}
use Rattle.expand_api.proofs.ExtensionLemmas.{signed_extended}

pub adds_digits : (x y z : Bool) → AddsDigits x y z
adds_digits true true true = refl
adds_digits true true false = refl
adds_digits true false true = refl
adds_digits true false false = refl
adds_digits false true true = refl
adds_digits false true false = refl
adds_digits false false true = refl
adds_digits false false false = refl

pub sum_length : (xs ys : List Bool) (c : Bool) → length xs ≡ length ys → length (sum xs ys c) ≡ length xs
sum_length [] ys c l = refl
sum_length (x ∷ xs) [] c l = absurd (cc)
sum_length (x ∷ xs) (y ∷ ys) c l = ap suc (sum_length xs ys (majority x y c) (omega arith))

pub sum_whole : (xs ys : List Bool) (c : Bool) → length xs ≡ length ys → natural (sum xs ys c) + digit (carry_out xs ys c) * 2 ^ length xs ≡ natural xs + natural ys + digit c
sum_whole [] [] c l = omega arith
sum_whole [] (y ∷ ys) c l = absurd (cc)
sum_whole (x ∷ xs) [] c l = absurd (cc)
sum_whole (x ∷ xs) (y ∷ ys) c l =
    let m = majority x y c in
    omega (arith, sum_whole xs ys m (omega arith), adds_digits x y c, digit_twice (carry_out xs ys m) (length xs))

pub sum_one_more : (xs ys : List Bool) (c : Bool) → length xs ≡ length ys → natural (sum xs ys c ++ carry_out xs ys c ∷ []) ≡ natural xs + natural ys + digit c
sum_one_more xs ys c l =
    natural_more (sum xs ys c) (carry_out xs ys c)
    ∙ ap (λ n. natural (sum xs ys c) + digit (carry_out xs ys c) * 2 ^ n) (sum_length xs ys c l)
    ∙ sum_whole xs ys c l

pub adds_naturals : (xs ys : List Bool) (c : Bool) → length xs ≡ length ys → AddsNaturals xs ys c
adds_naturals xs ys c l = record { as_many = sum_length xs ys c l; whole = sum_whole xs ys c l; one_more = sum_one_more xs ys c l }

pub grows_sum : (xs ys : List Bool) (c x y : Bool) → length xs ≡ length ys → GrowsSum xs ys c x y
grows_sum [] [] c x y l = record { sum_digit = refl; next_carry = refl }
grows_sum [] (z ∷ ys) c x y l = absurd (cc)
grows_sum (z ∷ xs) [] c x y l = absurd (cc)
grows_sum (z ∷ xs) (w ∷ ys) c x y l =
    let more = grows_sum xs ys (majority z w c) x y (omega arith) in
    record { sum_digit = ap (λ s. exclusive_or (exclusive_or z w) c ∷ s) more.sum_digit; next_carry = more.next_carry }

-- ---- two's complement
modulo_whole : (s w t p : ℕ) → s + w * p ≡ t → IsCongruent p (pos t) (pos s)
modulo_whole s w t p e = record { times = pos w; same = omega (arith, ints) }

pos_sum : (a b c : ℕ) → pos (a + b + c) ≡ (pos a +ℤ pos b) +ℤ pos c
pos_sum a b c = omega (arith, ints)

-- the sum of the values without a sign, but for a multiple of 2^n
pub sum_modulo_naturals : (xs ys : List Bool) (c : Bool) → length xs ≡ length ys → IsCongruent (2 ^ length xs) (signed (sum xs ys c)) ((pos (natural xs) +ℤ pos (natural ys)) +ℤ pos (digit c))
sum_modulo_naturals xs ys c l =
    let p = 2 ^ length xs in
    let s = sum xs ys c in
    let t = natural xs + natural ys + digit c in
    let m : IsCongruent p (signed s) (pos (natural s)) = subst (λ n. IsCongruent (2 ^ n) (signed s) (pos (natural s))) (sum_length xs ys c l) (signed_modulo s) in
    let w : IsCongruent p (pos (natural s)) (pos t) = congruent_back (modulo_whole (natural s) (digit (carry_out xs ys c)) t p (sum_whole xs ys c l)) in
    congruent_on (congruent_on m w) (same_congruent p (pos t) _ (pos_sum (natural xs) (natural ys) (digit c)))

pub sum_modulo : (xs ys : List Bool) (c : Bool) → length xs ≡ length ys → IsCongruent (2 ^ length xs) (signed (sum xs ys c)) ((signed xs +ℤ signed ys) +ℤ pos (digit c))
sum_modulo xs ys c l =
    let p = 2 ^ length xs in
    let y : IsCongruent p (signed ys) (pos (natural ys)) = subst (λ n. IsCongruent (2 ^ n) (signed ys) (pos (natural ys))) (sym l) (signed_modulo ys) in
    congruent_on (sum_modulo_naturals xs ys c l)
    (congruent_sum (congruent_sum (congruent_back (signed_modulo xs)) (congruent_back y)) (same_congruent p (pos (digit c)) (pos (digit c)) refl))

pub sum_within : (xs ys : List Bool) (c : Bool) → length xs ≡ length ys → IsSigned (length xs) (signed (sum xs ys c))
sum_within xs ys c l = subst (λ n. IsSigned n (signed (sum xs ys c))) (sum_length xs ys c l) (signed_within (sum xs ys c))

pub sum_exact : (xs ys : List Bool) (c : Bool) → length xs ≡ length ys → IsSigned (length xs) ((signed xs +ℤ signed ys) +ℤ pos (digit c)) → signed (sum xs ys c) ≡ (signed xs +ℤ signed ys) +ℤ pos (digit c)
sum_exact xs ys c l r = exact (length xs) _ _ (sum_within xs ys c l) r (sum_modulo xs ys c l)

-- ---- one digit more
pub extended_length : (xs : List Bool) → length (extended 1 xs) ≡ suc (length xs)
extended_length xs = length_more xs (sign xs)

pub extended_lengths : (xs ys : List Bool) → length xs ≡ length ys → length (extended 1 xs) ≡ length (extended 1 ys)
extended_lengths xs ys l = extended_length xs ∙ ap suc l ∙ sym (extended_length ys)

sum_bounds : (q : ℕ) (u v : ℤ) (c : ℕ) → neg_ℤ (pos (2 * q)) ≤ℤ (u +ℤ u) → (u +ℤ u) <ℤ pos (2 * q) → neg_ℤ (pos (2 * q)) ≤ℤ (v +ℤ v) → (v +ℤ v) <ℤ pos (2 * q) → c < 2 → (neg_ℤ (pos (2 * (2 * q))) ≤ℤ (((u +ℤ v) +ℤ pos c) +ℤ ((u +ℤ v) +ℤ pos c))) × ((((u +ℤ v) +ℤ pos c) +ℤ ((u +ℤ v) +ℤ pos c)) <ℤ pos (2 * (2 * q)))
sum_bounds q u v c a b d e h = (omega (arith, ints), omega (arith, ints))

-- the sum of two numbers of n digits and a carry is a number of n + 1 digits
pub sum_signed : (n : ℕ) (u v : ℤ) (c : ℕ) → c < 2 → IsSigned (suc n) u → IsSigned (suc n) v → IsSigned (suc (suc n)) ((u +ℤ v) +ℤ pos c)
sum_signed n u v c h r s =
    let e : 2 ^ suc n ≡ 2 * 2 ^ n = pow-succ' 2 n in
    let f : 2 ^ suc (suc n) ≡ 2 * (2 * 2 ^ n) = pow-succ' 2 (suc n) ∙ ap (λ k. 2 * k) e in
    let b = sum_bounds (2 ^ n) u v c
    (subst (λ k. neg_ℤ (pos k) ≤ℤ (u +ℤ u)) e r.above) (subst (λ k. (u +ℤ u) <ℤ pos k) e r.below)
    (subst (λ k. neg_ℤ (pos k) ≤ℤ (v +ℤ v)) e s.above) (subst (λ k. (v +ℤ v) <ℤ pos k) e s.below) h in
    record {
      above = subst (λ k. neg_ℤ (pos k) ≤ℤ (((u +ℤ v) +ℤ pos c) +ℤ ((u +ℤ v) +ℤ pos c))) (sym f) b.0;
      below = subst (λ k. (((u +ℤ v) +ℤ pos c) +ℤ ((u +ℤ v) +ℤ pos c)) <ℤ pos k) (sym f) b.1;
    }

-- two extended lists
pub sum_extended : (xs ys : List Bool) (c : Bool) → length xs ≡ length ys → IsSigned (suc (length xs)) ((signed xs +ℤ signed ys) +ℤ pos (digit c)) → signed (sum (extended 1 xs) (extended 1 ys) c) ≡ (signed xs +ℤ signed ys) +ℤ pos (digit c)
sum_extended xs ys c l r =
    let u = signed_extended 1 xs in
    let v = signed_extended 1 ys in
    let e : (signed (extended 1 xs) +ℤ signed (extended 1 ys)) +ℤ pos (digit c) ≡ (signed xs +ℤ signed ys) +ℤ pos (digit c) = λ i. (u i +ℤ v i) +ℤ pos (digit c) in
    sum_exact (extended 1 xs) (extended 1 ys) c (extended_lengths xs ys l)
    (subst (IsSigned (length (extended 1 xs))) (sym e) (subst (λ n. IsSigned n ((signed xs +ℤ signed ys) +ℤ pos (digit c))) (sym (extended_length xs)) r))
    ∙ e

some_signed : (xs ys : List Bool) (c : Bool) → length xs ≡ length ys → 0 < length xs → IsSigned (suc (length xs)) ((signed xs +ℤ signed ys) +ℤ pos (digit c))
some_signed [] ys c l h = absurd (omega arith)
some_signed (x ∷ xs) ys c l h = sum_signed (length xs) (signed (x ∷ xs)) (signed ys) (digit c) (digit_below c) (signed_within (x ∷ xs)) (subst (λ n. IsSigned n (signed ys)) (sym l) (signed_within ys))

pub adds_signed : (xs ys : List Bool) (c : Bool) → length xs ≡ length ys → AddsSigned xs ys c
adds_signed xs ys c l = record {
  modulo = sum_modulo xs ys c l;
  exact = sum_exact xs ys c l;
  one_more = λ h. sum_extended xs ys c l (some_signed xs ys c l h);
}
