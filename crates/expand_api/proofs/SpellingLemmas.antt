-- Each number in range has one list of digits of a length.
use Rattle.std.proofs.Common.{◌≡◌, ℕ, zero, suc, ◌+◌, ◌*◌, ◌/◌, ◌%◌, ◌^◌, ◌<◌, Bool, true, false, ◌==◌, List, [], ◌∷◌, length, ℤ, pos, negsuc, neg_ℤ, ◌+ℤ◌, ◌-ℤ◌, ◌≤ℤ◌, ◌<ℤ◌, ◌⊎◌, inl, inr, ⊎_elim, refl, sym, ap, subst, ◌∙◌, arith, unsigned_abs}
use Rattle.std.proofs.lemmas.Int.{ints}
use Rattle.std.proofs.lemmas.Nat.{mod-pow-add}
use Rattle.std.proofs.Math.Nat.{mod-eq_of_lt, mod-lt}
use Rattle.expand_api.specs.Digits.Values.{digit, natural, signed, complement, digits, signed_digits, IsSigned, IsCongruent, IsUnique, SpellsNatural, SpellsSigned, IsSpelled, KeepsNumber, KeepsCode}
use Rattle.expand_api.proofs.CongruenceLemmas.{same_congruent}
use Rattle.expand_api.proofs.ValueLemmas.{weight, natural_below, signed_within, IsNotNegative, IsNegative, signs, signed_is}

-- ---- no second list
pub natural_unique : (xs ys : List Bool) → length xs ≡ length ys → natural xs ≡ natural ys → xs ≡ ys
natural_unique [] [] l e = refl
natural_unique [] (y ∷ ys) l e = absurd (cc)
natural_unique (x ∷ xs) [] l e = absurd (cc)
natural_unique (true ∷ xs) (true ∷ ys) l e = ap (λ z. true ∷ z) (natural_unique xs ys (omega arith) (omega arith))
natural_unique (true ∷ xs) (false ∷ ys) l e = absurd (omega arith)
natural_unique (false ∷ xs) (true ∷ ys) l e = absurd (omega arith)
natural_unique (false ∷ xs) (false ∷ ys) l e = ap (λ z. false ∷ z) (natural_unique xs ys (omega arith) (omega arith))

same_value : (m n p : ℕ) (u v : ℤ) → m < p → n < p → (u ≡ pos m) ⊎ (u ≡ pos m -ℤ pos p) → (v ≡ pos n) ⊎ (v ≡ pos n -ℤ pos p) → u ≡ v → m ≡ n
same_value m n p u v h k (inl a) (inl b) e = omega (arith, ints)
same_value m n p u v h k (inl a) (inr b) e = omega (arith, ints)
same_value m n p u v h k (inr a) (inl b) e = omega (arith, ints)
same_value m n p u v h k (inr a) (inr b) e = omega (arith, ints)

-- the value in two's complement is that without a sign, or 2^n less
pub either_value : (xs : List Bool) → (signed xs ≡ pos (natural xs)) ⊎ (signed xs ≡ pos (natural xs) -ℤ pos (2 ^ length xs))
either_value xs = ⊎_elim (λ (c : IsNotNegative xs). inl c.value) (λ (c : IsNegative xs). inr c.value) (signs xs)

pub natural_from_signed : (xs ys : List Bool) → length xs ≡ length ys → signed xs ≡ signed ys → natural xs ≡ natural ys
natural_from_signed xs ys l e =
    let p : 2 ^ length ys ≡ 2 ^ length xs = ap (λ n. 2 ^ n) (sym l) in
    same_value (natural xs) (natural ys) (2 ^ length xs) (signed xs) (signed ys) (natural_below xs) (omega (arith, natural_below ys)) (either_value xs)
    (subst (λ q. (signed ys ≡ pos (natural ys)) ⊎ (signed ys ≡ pos (natural ys) -ℤ pos q)) p (either_value ys)) e

pub signed_unique : (xs ys : List Bool) → length xs ≡ length ys → signed xs ≡ signed ys → xs ≡ ys
signed_unique xs ys l e = natural_unique xs ys l (natural_from_signed xs ys l e)

pub is_unique : (xs ys : List Bool) → length xs ≡ length ys → IsUnique xs ys
is_unique xs ys l = record { without_sign = natural_unique xs ys l; with_sign = signed_unique xs ys l }

-- ---- the digits of a number
pub digits_length : (n v : ℕ) → length (digits n v) ≡ n
digits_length zero v = refl
digits_length (suc n) v = ap suc (digits_length n (v / 2))

digit_of : (r : ℕ) → r < 2 → digit (r == 1) ≡ r
digit_of zero h = refl
digit_of (suc zero) h = refl
digit_of (suc (suc r)) h = absurd (omega arith)

low_digit : (v : ℕ) → digit (v % 2 == 1) ≡ v % 2
low_digit v = digit_of (v % 2) (mod-lt v (omega arith))

more_digits : (v n : ℕ) → v % 2 ^ suc n ≡ 2 * (v / 2 % 2 ^ n) + v % 2
more_digits v n =
    let e : v % 2 ^ (n + 1) ≡ (v / 2 % 2 ^ n) * 2 + v % 2 = mod-pow-add v n 1 in
    let s : suc n ≡ n + 1 = omega arith in
    ap (λ k. v % 2 ^ k) s ∙ e ∙ omega arith

pub natural_digits : (n v : ℕ) → natural (digits n v) ≡ v % 2 ^ n
natural_digits zero v = omega (arith, mod-lt v (pow_one))
  where
    pow_one : 0 < 2 ^ 0
    pow_one = omega arith
natural_digits (suc n) v = omega (arith, natural_digits n (v / 2), low_digit v, more_digits v n)

pub natural_spelled : (n v : ℕ) → v < 2 ^ n → natural (digits n v) ≡ v
natural_spelled n v h = natural_digits n v ∙ mod-eq_of_lt h

pub spells_natural : (n v : ℕ) → SpellsNatural n v
spells_natural n v = record { as_many = digits_length n v; spelled = natural_spelled n v; modulo = natural_digits n v }

pub digits_natural : (xs : List Bool) → digits (length xs) (natural xs) ≡ xs
digits_natural xs = natural_unique (digits (length xs) (natural xs)) xs (digits_length (length xs) (natural xs)) (natural_spelled (length xs) (natural xs) (natural_below xs))

-- ---- two's complement
pub complement_length : (xs : List Bool) → length (complement xs) ≡ length xs
complement_length [] = refl
complement_length (x ∷ xs) = ap suc (complement_length xs)

pub natural_complement : (xs : List Bool) → natural (complement xs) + natural xs + 1 ≡ 2 ^ length xs
natural_complement [] = refl
natural_complement (true ∷ xs) = omega (arith, natural_complement xs, weight true xs)
natural_complement (false ∷ xs) = omega (arith, natural_complement xs, weight false xs)

pub signed_length : (n : ℕ) (v : ℤ) → length (signed_digits n v) ≡ n
signed_length n (pos v) = digits_length n v
signed_length n (negsuc v) = complement_length (digits n v) ∙ digits_length n v

pos_low : (p v : ℕ) → (pos v +ℤ pos v) <ℤ pos p → v < p
pos_low p v h = omega (arith, ints)

negsuc_low : (p v : ℕ) → neg_ℤ (pos p) ≤ℤ (negsuc v +ℤ negsuc v) → v < p
negsuc_low p v h = omega (arith, ints)

down_once : (c v p : ℕ) → c + v + 1 ≡ p → IsCongruent p (pos c) (negsuc v)
down_once c v p e = record { times = pos 1; same = omega (arith, ints) }

pub signed_spelled : (n : ℕ) (v : ℤ) → IsSigned n v → signed (signed_digits n v) ≡ v
signed_spelled n (pos v) r =
    signed_is (digits n v) (pos v)
    (same_congruent _ _ _ (ap pos (natural_spelled n v (pos_low (2 ^ n) v r.below))))
    (rw (digits_length n v) r)
signed_spelled n (negsuc v) r =
    let e = natural_spelled n v (negsuc_low (2 ^ n) v r.above) in
    let l = complement_length (digits n v) ∙ digits_length n v in
    let c = natural_complement (digits n v) in
    let d = ap (λ k. 2 ^ k) (digits_length n v) in
    signed_is (complement (digits n v)) (negsuc v)
    (subst (λ k. IsCongruent (2 ^ k) (pos (natural (complement (digits n v)))) (negsuc v)) (sym l) (down_once (natural (complement (digits n v))) v (2 ^ n) (omega arith)))
    (subst (λ k. IsSigned k (negsuc v)) (sym l) r)

pub spells_signed : (n : ℕ) (v : ℤ) → SpellsSigned n v
spells_signed n v = record { as_many = signed_length n v; spelled = signed_spelled n v }

pub is_spelled : (xs : List Bool) → IsSpelled xs
is_spelled xs = record {
  without_sign = digits_natural xs;
  with_sign = signed_unique _ xs (signed_length (length xs) (signed xs)) (signed_spelled (length xs) (signed xs) (signed_within xs));
}

-- ---- codes
pub distance_low : (v lo : ℤ) (p : ℕ) → lo ≤ℤ v → (v -ℤ lo) <ℤ pos p → unsigned_abs (v -ℤ lo) < p
distance_low v lo p h k = omega (arith, ints)

distance_back : (v lo : ℤ) → lo ≤ℤ v → lo +ℤ pos (unsigned_abs (v -ℤ lo)) ≡ v
distance_back v lo h = omega (arith, ints)

pub keeps_number : (n : ℕ) (lo v : ℤ) → KeepsNumber n lo v
keeps_number n lo v h k = ap (λ m. lo +ℤ pos m) (natural_spelled n (unsigned_abs (v -ℤ lo)) (distance_low v lo (2 ^ n) h k)) ∙ distance_back v lo h

distance_again : (lo : ℤ) (n : ℕ) → unsigned_abs ((lo +ℤ pos n) -ℤ lo) ≡ n
distance_again lo n = omega (arith, ints)

pub keeps_code : (lo : ℤ) (xs : List Bool) → KeepsCode lo xs
keeps_code lo xs = ap (digits (length xs)) (distance_again lo (natural xs)) ∙ digits_natural xs
