-- What lists of digits spell.
use Rattle.std.proofs.Common.{◌≡◌, ℕ, suc, ◌+◌, ◌*◌, ◌^◌, ◌<◌, ◌≤◌, Bool, true, false, List, [], ◌∷◌, ◌++◌, length, ℤ, pos, negsuc, neg_ℤ, ◌+ℤ◌, ◌-ℤ◌, ◌≤ℤ◌, ◌<ℤ◌, ◌⊎◌, inl, inr, ⊎_elim, refl, ap, ◌∙◌, arith}
use Rattle.std.proofs.lemmas.Int.{ints}
use Rattle.std.proofs.lemmas.Bool.{cases_Bool}
use Rattle.std.specs.Int.RustNames.{int_lt}
use Rattle.std.proofs.Math.Nat.{pow-suc, pow-succ', mul_comm}
use Rattle.expand_api.specs.Digits.Values.{digit, natural, last_or, sign, signed, IsSigned, IsCongruent, HasRange, HasSign, HasEnds}
use Rattle.expand_api.proofs.CongruenceLemmas.{same_congruent, congruent_on, exact}

-- twice a digit's weight
pub digit_twice : (x : Bool) (n : ℕ) → digit x * 2 ^ suc n ≡ 2 * (digit x * 2 ^ n)
digit_twice true n = omega arith
digit_twice false n = omega arith

pub digit_below : (x : Bool) → digit x < 2
digit_below true = omega arith
digit_below false = omega arith

-- the weight of one digit more
pub weight : (x : Bool) (xs : List Bool) → 2 ^ length (x ∷ xs) ≡ 2 * 2 ^ length xs
weight x xs = pow-suc 2 (length xs) ∙ mul_comm (2 ^ length xs) 2

pub natural_below : (xs : List Bool) → natural xs < 2 ^ length xs
natural_below [] = omega arith
natural_below (x ∷ xs) = omega (arith, natural_below xs, digit_below x, weight x xs)

-- ---- the sign digit
last_low : (x : Bool) (xs : List Bool) → last_or x xs ≡ false → natural (x ∷ xs) < 2 ^ length xs
last_low true [] e = absurd (cc)
last_low false [] e = omega arith
last_low x (y ∷ ys) e = omega (arith, last_low y ys e, digit_below x, weight y ys)

last_high : (x : Bool) (xs : List Bool) → last_or x xs ≡ true → 2 ^ length xs ≤ natural (x ∷ xs)
last_high true [] e = omega arith
last_high false [] e = absurd (cc)
last_high x (y ∷ ys) e = omega (arith, last_high y ys e, weight y ys)

-- a list whose sign digit is false, and one whose sign digit is true
pub record IsNotNegative (xs : List Bool) : Type 0 where
  pub sign_digit : sign xs ≡ false
  pub low : 2 * natural xs < 2 ^ length xs
  pub value : signed xs ≡ pos (natural xs)

pub record IsNegative (xs : List Bool) : Type 0 where
  pub sign_digit : sign xs ≡ true
  pub high : 2 ^ length xs ≤ 2 * natural xs
  pub value : signed xs ≡ pos (natural xs) -ℤ pos (2 ^ length xs)

signed_at : (xs : List Bool) (s : Bool) → sign xs ≡ s → signed xs ≡ pos (natural xs) -ℤ pos (digit s * 2 ^ length xs)
signed_at xs s e = ap (λ t. pos (natural xs) -ℤ pos (digit t * 2 ^ length xs)) e

less_nothing : (m n : ℕ) → pos m -ℤ pos (0 * n) ≡ pos m
less_nothing m n = omega (arith, ints)

less_once : (m n : ℕ) → pos m -ℤ pos (1 * n) ≡ pos m -ℤ pos n
less_once m n = omega (arith, ints)

pub not_negative_at : (xs : List Bool) → sign xs ≡ false → IsNotNegative xs
not_negative_at [] e = record { sign_digit = e; low = omega arith; value = signed_at [] false e ∙ less_nothing 0 1 }
not_negative_at (x ∷ xs) e = record {
  sign_digit = e;
  low = omega (arith, last_low x xs e, weight x xs);
  value = signed_at (x ∷ xs) false e ∙ less_nothing (natural (x ∷ xs)) (2 ^ length (x ∷ xs));
}

pub negative_at : (xs : List Bool) → sign xs ≡ true → IsNegative xs
negative_at [] e = absurd (cc)
negative_at (x ∷ xs) e = record {
  sign_digit = e;
  high = omega (arith, last_high x xs e, weight x xs);
  value = signed_at (x ∷ xs) true e ∙ less_once (natural (x ∷ xs)) (2 ^ length (x ∷ xs));
}

pub signs : (xs : List Bool) → IsNotNegative xs ⊎ IsNegative xs
signs xs = ⊎_elim (λ t. inr (negative_at xs t)) (λ f. inl (not_negative_at xs f)) (cases_Bool (sign xs))

range_from : (n p : ℕ) (v : ℤ) → n < p → (2 * n < p) × (v ≡ pos n) ⊎ (p ≤ 2 * n) × (v ≡ pos n -ℤ pos p) → (neg_ℤ (pos p) ≤ℤ (v +ℤ v)) × ((v +ℤ v) <ℤ pos p)
range_from n p v h (inl c) = (omega (arith, ints, c.0, c.1), omega (arith, ints, c.0, c.1))
range_from n p v h (inr c) = (omega (arith, ints, c.0, c.1), omega (arith, ints, c.0, c.1))

pub signed_within : (xs : List Bool) → IsSigned (length xs) (signed xs)
signed_within xs =
    let r = range_from (natural xs) (2 ^ length xs) (signed xs) (natural_below xs) (⊎_elim (λ (c : IsNotNegative xs). inl (c.low, c.value)) (λ (c : IsNegative xs). inr (c.high, c.value)) (signs xs)) in
    record { above = r.0; below = r.1 }

pub has_range : (xs : List Bool) → HasRange xs
has_range xs = record { without_sign = natural_below xs; with_sign = signed_within xs }

-- ---- the two values
modulo_from : (n p : ℕ) (v : ℤ) → (v ≡ pos n) ⊎ (v ≡ pos n -ℤ pos p) → IsCongruent p v (pos n)
modulo_from n p v (inl e) = same_congruent p v (pos n) e
modulo_from n p v (inr e) = record { times = negsuc 0; same = omega (arith, ints) }

pub signed_modulo : (xs : List Bool) → IsCongruent (2 ^ length xs) (signed xs) (pos (natural xs))
signed_modulo xs = modulo_from (natural xs) (2 ^ length xs) (signed xs) (⊎_elim (λ (c : IsNotNegative xs). inl c.value) (λ (c : IsNegative xs). inr c.value) (signs xs))

-- a number of n digits that the list spells but for a multiple of 2^n is its value
pub signed_is : (xs : List Bool) (v : ℤ) → IsCongruent (2 ^ length xs) (pos (natural xs)) v → IsSigned (length xs) v → signed xs ≡ v
signed_is xs v c r = exact (length xs) (signed xs) v (signed_within xs) r (congruent_on (signed_modulo xs) c)

true_sign : (n p : ℕ) (v : ℤ) → v ≡ pos n -ℤ pos p → n < p → true ≡ int_lt v (pos 0)
true_sign n p v e h = omega (arith, ints)

false_sign : (n : ℕ) (v : ℤ) → v ≡ pos n → false ≡ int_lt v (pos 0)
false_sign n v e = omega (arith, ints)

pub sign_tells : (xs : List Bool) → sign xs ≡ int_lt (signed xs) (pos 0)
sign_tells xs =
    ⊎_elim
    (λ (c : IsNotNegative xs). c.sign_digit ∙ false_sign (natural xs) (signed xs) c.value)
    (λ (c : IsNegative xs). c.sign_digit ∙ true_sign (natural xs) (2 ^ length xs) (signed xs) c.value (natural_below xs))
    (signs xs)

-- ---- one digit more
pub length_more : (xs : List Bool) (x : Bool) → length (xs ++ x ∷ []) ≡ suc (length xs)
length_more [] x = refl
length_more (y ∷ ys) x = ap suc (length_more ys x)

pub natural_more : (xs : List Bool) (x : Bool) → natural (xs ++ x ∷ []) ≡ natural xs + digit x * 2 ^ length xs
natural_more [] true = omega arith
natural_more [] false = omega arith
natural_more (y ∷ ys) x = omega (arith, natural_more ys x, digit_twice x (length ys))

small_signed : (n p : ℕ) → n < p → (neg_ℤ (pos (2 * p)) ≤ℤ (pos n +ℤ pos n)) × ((pos n +ℤ pos n) <ℤ pos (2 * p))
small_signed n p h = (omega (arith, ints), omega (arith, ints))

-- a number without a sign is one of one digit more with a sign
pub natural_signed : (n v : ℕ) → v < 2 ^ n → IsSigned (suc n) (pos v)
natural_signed n v h =
    let q : 2 ^ suc n ≡ 2 * 2 ^ n = pow-succ' 2 n in
    let r = small_signed v (2 ^ n) h in
    record { above = rw q r.0; below = rw q r.1 }

pub has_sign : (xs : List Bool) → HasSign xs
has_sign xs = record {
  negative = sign_tells xs;
  not_negative = λ e. (not_negative_at xs e).value;
  modulo = signed_modulo xs;
}

-- ---- the ends of the numbers of n + 1 digits
halves : (p q : ℕ) (v : ℤ) → q ≡ 2 * p → neg_ℤ (pos q) ≤ℤ (v +ℤ v) → (v +ℤ v) <ℤ pos q → (neg_ℤ (pos p) ≤ℤ v) × (v <ℤ pos p)
halves p q v e a b = (omega (arith, ints), omega (arith, ints))

twices : (p q : ℕ) (v : ℤ) → q ≡ 2 * p → neg_ℤ (pos p) ≤ℤ v → v <ℤ pos p → (neg_ℤ (pos q) ≤ℤ (v +ℤ v)) × ((v +ℤ v) <ℤ pos q)
twices p q v e a b = (omega (arith, ints), omega (arith, ints))

next_power : (n : ℕ) → 2 ^ (n + 1) ≡ 2 * 2 ^ n
next_power n = let s : n + 1 ≡ suc n = omega arith in ap (λ k. 2 ^ k) s ∙ pow-succ' 2 n

pub has_ends : (n : ℕ) (v : ℤ) → HasEnds n v
has_ends n v =
    let e = next_power n in (
      λ r. halves (2 ^ n) (2 ^ (n + 1)) v e r.above r.below,
      λ r. let t = twices (2 ^ n) (2 ^ (n + 1)) v e r.0 r.1 in record { above = t.0; below = t.1 },
    )
