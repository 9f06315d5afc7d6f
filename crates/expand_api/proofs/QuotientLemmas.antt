-- Quotients and remainders digit by digit.
use Rattle.std.proofs.Common.{◌≡◌, ℕ, suc, ◌+◌, ◌*◌, ◌/◌, ◌%◌, ◌^◌, ◌<◌, ◌≤◌, Bool, true, false, cond, List, [], ◌∷◌, ◌++◌, length, take, replicate, ℤ, pos, negsuc, neg_ℤ, ◌+ℤ◌, ◌≤ℤ◌, ◌<ℤ◌, ⊎_elim, refl, sym, ap, subst, ◌∙◌, arith, unsigned_abs, int_div, int_rem}
use Rattle.std.proofs.lemmas.Int.{ints}
use Rattle.std.proofs.lemmas.Bool.{cases_lt, cases_Bool}
use Rattle.std.proofs.lemmas.List.{length-replicate, length-take-le}
use Rattle.std.proofs.lemmas.Nat.{div-mul-add, mod-mul-add, pow_pos}
use Rattle.std.proofs.Math.Nat.{div-zero, mod-zero, div-le_self, mod-lt, pow-succ'}
use Rattle.std.specs.Int.RustNames.{int_lt}
use Rattle.expand_api.specs.Digits.Values.{digit, natural, sign, signed, IsSigned}
use Rattle.expand_api.specs.Digits.Sums.{exclusive_or, difference, no_borrow, negation_where, absolute}
use Rattle.expand_api.specs.Digits.Choices.{choice}
use Rattle.expand_api.specs.Digits.Quotients.{division, is_zero, quotient, remainder, DividesNaturals, DividesSigned}
use Rattle.expand_api.proofs.CongruenceLemmas.{same_congruent}
use Rattle.expand_api.proofs.ValueLemmas.{digit_below, length_more, natural_more, natural_below, signed_within, signed_is, sign_tells}
use Rattle.expand_api.proofs.SpellingLemmas.{signed_unique}
use Rattle.expand_api.proofs.ExtensionLemmas.{natural_falses, natural_cut}
use Rattle.expand_api.proofs.ChoiceLemmas.{choice_at, choice_length}
use Rattle.expand_api.proofs.ComparisonLemmas.{equal_from, same_equal, below, not_below}
use Rattle.expand_api.proofs.DifferenceLemmas.{difference_length, borrows, needs_no_borrow, negation_exact, signed_falses, absolute_size, absolute_length, where_true, where_false, where_length}
use Rattle.expand_api.proofs.ProductLemmas.{size_bound}

-- ---- lengths
wide_length : (x : Bool) (r divisor : List Bool) → length r ≡ length divisor → length (x ∷ r) ≡ length (divisor ++ false ∷ [])
wide_length x r divisor l = ap suc l ∙ sym (length_more divisor false)

left_length : (x : Bool) (r divisor : List Bool) (fits : Bool) → length r ≡ length divisor → length (take (length divisor) (choice fits (difference (x ∷ r) (divisor ++ false ∷ [])) (x ∷ r))) ≡ length divisor
left_length x r divisor fits l =
    let d = difference_length (x ∷ r) (divisor ++ false ∷ []) (wide_length x r divisor l) in
    let c = choice_length fits (difference (x ∷ r) (divisor ++ false ∷ [])) (x ∷ r) d ∙ d in
    length-take-le (length divisor) (choice fits (difference (x ∷ r) (divisor ++ false ∷ [])) (x ∷ r)) (omega (arith, c, l))

pub remainder_length : (xs divisor : List Bool) → length (division xs divisor).remainder ≡ length divisor
remainder_length [] divisor = length-replicate (length divisor) false
remainder_length (x ∷ xs) divisor =
    let r = (division xs divisor).remainder in
    left_length x r divisor (no_borrow (x ∷ r) (divisor ++ false ∷ [])) (remainder_length xs divisor)

pub quotient_length : (xs divisor : List Bool) → length (division xs divisor).quotient ≡ length xs
quotient_length [] divisor = refl
quotient_length (x ∷ xs) divisor = ap suc (quotient_length xs divisor)

-- ---- one digit further
-- the remainder that is left of r with the digit x below it
pub record IsLeft (x fits : Bool) (r n : ℕ) (left : ℕ) : Type 0 where
  pub whole : digit x + 2 * r ≡ left + digit fits * n
  pub below : left < n

wide_natural : (divisor : List Bool) → natural (divisor ++ false ∷ []) ≡ natural divisor
wide_natural divisor = omega (arith, natural_more divisor false)

pub left_over : (x : Bool) (r divisor : List Bool) → length r ≡ length divisor → natural r < natural divisor → IsLeft x (no_borrow (x ∷ r) (divisor ++ false ∷ [])) (natural r) (natural divisor) (natural (take (length divisor) (choice (no_borrow (x ∷ r) (divisor ++ false ∷ [])) (difference (x ∷ r) (divisor ++ false ∷ [])) (x ∷ r))))
left_over x r divisor l h =
    let grown = x ∷ r in
    let wide = divisor ++ false ∷ [] in
    let less = difference grown wide in
    let w = wide_length x r divisor l in
    let m = difference_length grown wide w in
    let e = wide_natural divisor in
    let p = natural_below divisor in
    let d = digit_below x in
    ⊎_elim
    (λ (small : natural grown < natural divisor).
    let f : no_borrow grown wide ≡ false = borrows grown wide w (omega arith) in
    let c : choice (no_borrow grown wide) less grown ≡ grown = choice_at (no_borrow grown wide) false less grown f m in
    let t : natural (take (length divisor) grown) ≡ natural grown = natural_cut (length divisor) grown (omega arith) in
    let v : natural (take (length divisor) (choice (no_borrow grown wide) less grown)) ≡ natural grown = ap (λ zs. natural (take (length divisor) zs)) c ∙ t in
    let g : digit (no_borrow grown wide) ≡ 0 = ap digit f in
    let k : digit (no_borrow grown wide) * natural divisor ≡ 0 * natural divisor = ap (λ n. n * natural divisor) g in
    let at : IsLeft x (no_borrow grown wide) (natural r) (natural divisor) (natural (take (length divisor) (choice (no_borrow grown wide) less grown))) = record { whole = omega (arith, v, k); below = omega (arith, v) } in
    at)
    (λ (large : natural divisor ≤ natural grown).
    let n = needs_no_borrow grown wide w (omega arith) in
    let f = n.0 in
    let c : choice (no_borrow grown wide) less grown ≡ less = choice_at (no_borrow grown wide) true less grown f m in
    let s : natural less + natural divisor ≡ natural grown = omega (arith, n.1, e) in
    let t : natural (take (length divisor) less) ≡ natural less = natural_cut (length divisor) less (omega arith) in
    let v : natural (take (length divisor) (choice (no_borrow grown wide) less grown)) ≡ natural less = ap (λ zs. natural (take (length divisor) zs)) c ∙ t in
    let k : digit (no_borrow grown wide) * natural divisor ≡ 1 * natural divisor = ap (λ b. digit b * natural divisor) f in
    let at : IsLeft x (no_borrow grown wide) (natural r) (natural divisor) (natural (take (length divisor) (choice (no_borrow grown wide) less grown))) = record { whole = omega (arith, v, k, s); below = omega (arith, v, s) } in
    at)
    (cases_lt (natural grown) (natural divisor))

-- ---- without a sign
-- x is q times n and r, which is less than n
pub record IsDivided (x n q r : ℕ) : Type 0 where
  pub whole : x ≡ q * n + r
  pub below : r < n

further : (d f x n q r left : ℕ) → x ≡ q * n + r → d + 2 * r ≡ left + f * n → d + 2 * x ≡ (f + 2 * q) * n + left
further d f x n q r left e h = omega arith

pub is_divided : (xs divisor : List Bool) → 0 < natural divisor → IsDivided (natural xs) (natural divisor) (natural (division xs divisor).quotient) (natural (division xs divisor).remainder)
is_divided [] divisor h = record { whole = omega (arith, natural_falses (length divisor)); below = omega (arith, natural_falses (length divisor)) }
is_divided (x ∷ xs) divisor h =
    let d = division xs divisor in
    let rest = is_divided xs divisor h in
    let fits = no_borrow (x ∷ d.remainder) (divisor ++ false ∷ []) in
    let left = left_over x d.remainder divisor (remainder_length xs divisor) rest.below in
    record {
      whole = further (digit x) (digit fits) (natural xs) (natural divisor) (natural d.quotient) (natural d.remainder) _ rest.whole left.whole;
      below = left.below;
    }

quotient_from : (x n q r : ℕ) → IsDivided x n q r → (q ≡ x / n) × (r ≡ x % n)
quotient_from x n q r d =
    (sym (div-mul-add q n r d.below) ∙ ap (λ m. m / n) (sym d.whole), sym (mod-mul-add q n r d.below) ∙ ap (λ m. m % n) (sym d.whole))

pub divides_naturals : (xs ys : List Bool) → DividesNaturals xs ys
divides_naturals xs ys = record {
  quotient_length = quotient_length xs ys;
  remainder_length = remainder_length xs ys;
  divided = λ h. (quotient_from _ _ _ _ (is_divided xs ys h)).0;
  left_over = λ h. (quotient_from _ _ _ _ (is_divided xs ys h)).1;
}

-- ---- the divisor 0
pub zero_is : (xs : List Bool) → is_zero xs ≡ true → signed xs ≡ pos 0
zero_is xs e = ap signed (same_equal xs (replicate (length xs) false) e) ∙ signed_falses (length xs)

is_zero_from : (xs : List Bool) → signed xs ≡ pos 0 → is_zero xs ≡ true
is_zero_from xs e = equal_from xs (replicate (length xs) false) (signed_unique xs (replicate (length xs) false) (sym (length-replicate (length xs) false)) (e ∙ sym (signed_falses (length xs))))

no_size : (v : ℤ) → unsigned_abs v ≡ 0 → v ≡ pos 0
no_size v e = omega (arith, ints)

some_size : (n : ℕ) → ¬ (n ≡ 0) → 0 < n
some_size n h = omega arith

pub nonzero_size : (xs : List Bool) → is_zero xs ≡ false → 0 < unsigned_abs (signed xs)
nonzero_size xs e = some_size (unsigned_abs (signed xs)) (λ z. let t = is_zero_from xs (no_size (signed xs) z) in absurd (cc))

divided_by_zero : (u v : ℤ) → v ≡ pos 0 → pos 0 ≡ int_div u v
divided_by_zero (pos a) v e = sym (ap (int_div (pos a)) e ∙ ap pos (div-zero a))
divided_by_zero (negsuc a) v e = sym (ap (int_div (negsuc a)) e ∙ ap (λ n. neg_ℤ (pos n)) (div-zero (suc a)))

left_by_zero : (u v : ℤ) → v ≡ pos 0 → u ≡ int_rem u v
left_by_zero (pos a) v e = sym (ap (int_rem (pos a)) e ∙ ap pos (mod-zero a))
left_by_zero (negsuc a) v e = sym (ap (int_rem (negsuc a)) e ∙ ap (λ n. neg_ℤ (pos n)) (mod-zero (suc a)))

-- ---- by absolute values
not_negative_pos : (b : Bool) (a : ℕ) → b ≡ int_lt (pos a) (pos 0) → b ≡ false
not_negative_pos b a e = e ∙ sym (not_below (pos a) (pos 0) (omega (arith, ints)))

negative_negsuc : (b : Bool) (a : ℕ) → b ≡ int_lt (negsuc a) (pos 0) → b ≡ true
negative_negsuc b a e = e ∙ sym (below (negsuc a) (pos 0) (omega (arith, ints)))

negated_at : (b c d e : Bool) (w : ℤ) → b ≡ d → c ≡ e → cond (exclusive_or b c) (neg_ℤ w) w ≡ cond (exclusive_or d e) (neg_ℤ w) w
negated_at b c d e w p q = λ i. cond (exclusive_or (p i) (q i)) (neg_ℤ w) w

pub divided_by_sizes : (b c : Bool) (u v : ℤ) → b ≡ int_lt u (pos 0) → c ≡ int_lt v (pos 0) → cond (exclusive_or b c) (neg_ℤ (pos (unsigned_abs u / unsigned_abs v))) (pos (unsigned_abs u / unsigned_abs v)) ≡ int_div u v
divided_by_sizes b c (pos a) (pos k) e f = negated_at b c false false (pos (a / k)) (not_negative_pos b a e) (not_negative_pos c k f)
divided_by_sizes b c (pos a) (negsuc k) e f = negated_at b c false true (pos (a / suc k)) (not_negative_pos b a e) (negative_negsuc c k f)
divided_by_sizes b c (negsuc a) (pos k) e f = negated_at b c true false (pos (suc a / k)) (negative_negsuc b a e) (not_negative_pos c k f)
divided_by_sizes b c (negsuc a) (negsuc k) e f = negated_at b c true true (pos (suc a / suc k)) (negative_negsuc b a e) (negative_negsuc c k f)

pub left_by_sizes : (b : Bool) (u v : ℤ) → b ≡ int_lt u (pos 0) → cond b (neg_ℤ (pos (unsigned_abs u % unsigned_abs v))) (pos (unsigned_abs u % unsigned_abs v)) ≡ int_rem u v
left_by_sizes b (pos a) v e = ap (λ t. cond t (neg_ℤ (pos (a % unsigned_abs v))) (pos (a % unsigned_abs v))) (not_negative_pos b a e)
left_by_sizes b (negsuc a) v e = ap (λ t. cond t (neg_ℤ (pos (suc a % unsigned_abs v))) (pos (suc a % unsigned_abs v))) (negative_negsuc b a e)

-- ---- negation where c is true, of a number that may be negated in as many digits
small_bounds : (p n : ℕ) → 2 * n < p → ((neg_ℤ (pos p) ≤ℤ (pos n +ℤ pos n)) × ((pos n +ℤ pos n) <ℤ pos p)) × ((neg_ℤ (pos p) ≤ℤ (neg_ℤ (pos n) +ℤ neg_ℤ (pos n))) × ((neg_ℤ (pos n) +ℤ neg_ℤ (pos n)) <ℤ pos p))
small_bounds p n h = ((omega (arith, ints), omega (arith, ints)), (omega (arith, ints), small_opposite p n h))
  where
    small_opposite : (p n : ℕ) → 2 * n < p → (neg_ℤ (pos n) +ℤ neg_ℤ (pos n)) <ℤ pos p
    small_opposite p n h = omega (arith, ints)

small_signed : (k n : ℕ) → 2 * n < 2 ^ k → IsSigned k (pos n)
small_signed k n h = let b = small_bounds (2 ^ k) n h in record { above = b.0.0; below = b.0.1 }

small_negated : (k n : ℕ) → 2 * n < 2 ^ k → IsSigned k (neg_ℤ (pos n))
small_negated k n h = let b = small_bounds (2 ^ k) n h in record { above = b.1.0; below = b.1.1 }

pub where_exact : (c : Bool) (zs : List Bool) (n : ℕ) → natural zs ≡ n → 2 * n < 2 ^ length zs → signed (negation_where c zs) ≡ cond c (neg_ℤ (pos n)) (pos n)
where_exact c zs n e h =
    let s : signed zs ≡ pos n = signed_is zs (pos n) (same_congruent _ _ _ (ap pos e)) (small_signed (length zs) n h) in
    where_at c s
  where
    where_at : (c : Bool) → signed zs ≡ pos n → signed (negation_where c zs) ≡ cond c (neg_ℤ (pos n)) (pos n)
    where_at true s =
        let o = ap neg_ℤ s in
        ap signed (where_true true zs refl) ∙ negation_exact zs (subst (IsSigned (length zs)) (sym o) (small_negated (length zs) n h)) ∙ o
    where_at false s = ap signed (where_false false zs refl) ∙ s

-- ---- two's complement
signed_bound : (xs : List Bool) → 2 * unsigned_abs (signed xs) ≤ 2 ^ length xs
signed_bound xs = let r = signed_within xs in size_bound (2 ^ length xs) (signed xs) r.above r.below

some_divisor : (ys : List Bool) → is_zero ys ≡ false → 0 < natural (absolute ys)
some_divisor ys e = omega (arith, nonzero_size ys e, absolute_size ys)

sizes_quotient : (xs ys : List Bool) → is_zero ys ≡ false → natural (division (absolute xs) (absolute ys)).quotient ≡ unsigned_abs (signed xs) / unsigned_abs (signed ys)
sizes_quotient xs ys e =
    let d = (divides_naturals (absolute xs) (absolute ys)).divided (some_divisor ys e) in
    let a = absolute_size xs in
    let b = absolute_size ys in
    d ∙ (λ i. a i / b i)

sizes_remainder : (xs ys : List Bool) → is_zero ys ≡ false → natural (division (absolute xs) (absolute ys)).remainder ≡ unsigned_abs (signed xs) % unsigned_abs (signed ys)
sizes_remainder xs ys e =
    let d = (divides_naturals (absolute xs) (absolute ys)).left_over (some_divisor ys e) in
    let a = absolute_size xs in
    let b = absolute_size ys in
    d ∙ (λ i. a i % b i)

digits_length : (xs ys : List Bool) → length ((division (absolute xs) (absolute ys)).quotient ++ false ∷ []) ≡ suc (length xs)
digits_length xs ys =
    length_more (division (absolute xs) (absolute ys)).quotient false
    ∙ ap suc (quotient_length (absolute xs) (absolute ys) ∙ absolute_length xs)

zeros_length : (xs ys : List Bool) (c : Bool) → length (replicate (length xs + 1) false) ≡ length (negation_where c ((division (absolute xs) (absolute ys)).quotient ++ false ∷ []))
zeros_length xs ys c =
    length-replicate (length xs + 1) false
    ∙ omega arith
    ∙ sym (where_length c ((division (absolute xs) (absolute ys)).quotient ++ false ∷ []) ∙ digits_length xs ys)

pub truncated_length : (xs ys : List Bool) → length (quotient xs ys) ≡ length xs + 1
truncated_length xs ys =
    choice_length (is_zero ys) (replicate (length xs + 1) false) (negation_where (exclusive_or (sign xs) (sign ys)) ((division (absolute xs) (absolute ys)).quotient ++ false ∷ [])) (zeros_length xs ys (exclusive_or (sign xs) (sign ys)))
    ∙ length-replicate (length xs + 1) false

wide_bound : (q a p r : ℕ) → q ≤ a → 2 * a ≤ p → 0 < p → r ≡ 2 * p → 2 * q < r
wide_bound q a p r h k s e = omega arith

truncated_some : (xs ys : List Bool) → is_zero ys ≡ false → signed (quotient xs ys) ≡ int_div (signed xs) (signed ys)
truncated_some xs ys z =
    let c = exclusive_or (sign xs) (sign ys) in
    let q = (division (absolute xs) (absolute ys)).quotient ++ false ∷ [] in
    let m = unsigned_abs (signed xs) in
    let n = unsigned_abs (signed ys) in
    let e : natural q ≡ m / n = natural_more (division (absolute xs) (absolute ys)).quotient false ∙ omega (arith, sizes_quotient xs ys z) in
    let w = ap (λ k. 2 ^ k) (digits_length xs ys) ∙ pow-succ' 2 (length xs) in
    ap signed (choice_at (is_zero ys) false (replicate (length xs + 1) false) (negation_where c q) z (zeros_length xs ys c))
    ∙ where_exact c q (m / n) e (wide_bound (m / n) m (2 ^ length xs) (2 ^ length q) (div-le_self m n) (signed_bound xs) (pow_pos (length xs)) w)
    ∙ divided_by_sizes (sign xs) (sign ys) (signed xs) (signed ys) (sign_tells xs) (sign_tells ys)

truncated_zero : (xs ys : List Bool) → is_zero ys ≡ true → signed (quotient xs ys) ≡ int_div (signed xs) (signed ys)
truncated_zero xs ys z =
    let c = exclusive_or (sign xs) (sign ys) in
    let q = (division (absolute xs) (absolute ys)).quotient ++ false ∷ [] in
    ap signed (choice_at (is_zero ys) true (replicate (length xs + 1) false) (negation_where c q) z (zeros_length xs ys c))
    ∙ signed_falses (length xs + 1)
    ∙ divided_by_zero (signed xs) (signed ys) (zero_is ys z)

pub truncated : (xs ys : List Bool) → signed (quotient xs ys) ≡ int_div (signed xs) (signed ys)
truncated xs ys = ⊎_elim (truncated_zero xs ys) (truncated_some xs ys) (cases_Bool (is_zero ys))

rest_length : (xs ys : List Bool) → length xs ≡ length ys → length (negation_where (sign xs) (division (absolute xs) (absolute ys)).remainder) ≡ length xs
rest_length xs ys l =
    where_length (sign xs) (division (absolute xs) (absolute ys)).remainder
    ∙ remainder_length (absolute xs) (absolute ys)
    ∙ absolute_length ys
    ∙ sym l

pub left_over_length : (xs ys : List Bool) → length xs ≡ length ys → length (remainder xs ys) ≡ length xs
left_over_length xs ys l = choice_length (is_zero ys) xs (negation_where (sign xs) (division (absolute xs) (absolute ys)).remainder) (sym (rest_length xs ys l))

left_over_some : (xs ys : List Bool) → length xs ≡ length ys → is_zero ys ≡ false → signed (remainder xs ys) ≡ int_rem (signed xs) (signed ys)
left_over_some xs ys l z =
    let r = (division (absolute xs) (absolute ys)).remainder in
    let m = unsigned_abs (signed xs) in
    let n = unsigned_abs (signed ys) in
    let e : natural r ≡ m % n = sizes_remainder xs ys z in
    let w : 2 ^ length r ≡ 2 ^ length ys = ap (λ k. 2 ^ k) (remainder_length (absolute xs) (absolute ys) ∙ absolute_length ys) in
    let s : m % n < n = mod-lt m (nonzero_size ys z) in
    ap signed (choice_at (is_zero ys) false xs (negation_where (sign xs) r) z (sym (rest_length xs ys l)))
    ∙ where_exact (sign xs) r (m % n) e (omega (arith, s, w, signed_bound ys))
    ∙ left_by_sizes (sign xs) (signed xs) (signed ys) (sign_tells xs)

left_over_zero : (xs ys : List Bool) → length xs ≡ length ys → is_zero ys ≡ true → signed (remainder xs ys) ≡ int_rem (signed xs) (signed ys)
left_over_zero xs ys l z =
    ap signed (choice_at (is_zero ys) true xs (negation_where (sign xs) (division (absolute xs) (absolute ys)).remainder) z (sym (rest_length xs ys l)))
    ∙ left_by_zero (signed xs) (signed ys) (zero_is ys z)

pub left_over_is : (xs ys : List Bool) → length xs ≡ length ys → signed (remainder xs ys) ≡ int_rem (signed xs) (signed ys)
left_over_is xs ys l = ⊎_elim (left_over_zero xs ys l) (left_over_some xs ys l) (cases_Bool (is_zero ys))

pub divides_signed : (xs ys : List Bool) → length xs ≡ length ys → DividesSigned xs ys
divides_signed xs ys l = record {
  quotient_length = truncated_length xs ys;
  remainder_length = left_over_length xs ys l;
  truncated = truncated xs ys;
  left_over = left_over_is xs ys l;
}
