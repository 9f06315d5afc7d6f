-- Products row by row.
use Rattle.std.proofs.Common.{◌≡◌, ℕ, zero, suc, ◌+◌, ◌*◌, ◌^◌, ◌<◌, ◌≤◌, Bool, true, false, cond, List, [], ◌∷◌, length, replicate, ℤ, pos, negsuc, neg_ℤ, ◌+ℤ◌, ◌-ℤ◌, ◌*ℤ◌, ◌≤ℤ◌, ◌<ℤ◌, refl, sym, ap, subst, ◌∙◌, arith, unsigned_abs, length-append}
use Rattle.std.proofs.lemmas.Int.{ints, unsigned_abs-mul}
use Rattle.std.proofs.lemmas.List.{length-replicate}
use Rattle.std.proofs.lemmas.Nat.{pow-add, pow_pos, mul-le, mul-lt}
use Rattle.std.proofs.Math.IntN.{*ℤ_comm, neg_ℤ-neg_ℤ}
use Rattle.std.specs.Int.RustNames.{int_lt}
use Rattle.expand_api.specs.Digits.Values.{digit, natural, last_or, sign, signed, widened, IsSigned, IsCongruent}
use Rattle.expand_api.specs.Digits.Sums.{exclusive_or, sum, negation, negation_where, absolute}
use Rattle.expand_api.specs.Digits.Products.{row, pushed, doubled, product, signed_product, product_of_absolutes, HasProductRange, MultipliesNaturals, IsProduct, Multiplies}
use Rattle.expand_api.proofs.CongruenceLemmas.{distribute, negation_out, same_congruent, congruent_back, congruent_on, congruent_sum, congruent_negation, congruent_product, exact}
use Rattle.expand_api.proofs.ValueLemmas.{digit_twice, natural_below, signed_within, signed_modulo, sign_tells}
use Rattle.expand_api.proofs.ExtensionLemmas.{natural_widened}
use Rattle.expand_api.proofs.SumLemmas.{sum_length, sum_modulo}
use Rattle.expand_api.proofs.DifferenceLemmas.{negation_length, negation_modulo, signed_falses, absolute_size, absolute_length, where_true, where_false, where_length}

-- ---- rows
pub row_true : (xs : List Bool) → row true xs ≡ xs
row_true [] = refl
row_true (x ∷ xs) = ap (λ zs. x ∷ zs) (row_true xs)

pub row_false : (xs : List Bool) → row false xs ≡ replicate (length xs) false
row_false [] = refl
row_false (x ∷ xs) = ap (λ zs. false ∷ zs) (row_false xs)

pub row_length : (c : Bool) (xs : List Bool) → length (row c xs) ≡ length xs
row_length c [] = refl
row_length c (x ∷ xs) = ap suc (row_length c xs)

one_time : (u : ℤ) → u ≡ pos 1 *ℤ u
one_time (pos a) = omega (arith, ints)
one_time (negsuc a) = omega (arith, ints)

no_time : (u : ℤ) → pos 0 ≡ pos 0 *ℤ u
no_time (pos a) = omega (arith, ints)
no_time (negsuc a) = omega (arith, ints)

pub signed_row : (c : Bool) (xs : List Bool) → signed (row c xs) ≡ pos (digit c) *ℤ signed xs
signed_row true xs = ap signed (row_true xs) ∙ one_time (signed xs)
signed_row false xs = ap signed (row_false xs) ∙ signed_falses (length xs) ∙ no_time (signed xs)

-- ---- twice
pub pushed_length : (x : Bool) (ys : List Bool) → length (pushed x ys) ≡ length ys
pushed_length x [] = refl
pushed_length x (y ∷ ys) = ap suc (pushed_length y ys)

pub pushed_whole : (x : Bool) (ys : List Bool) → natural (pushed x ys) + digit (last_or x ys) * 2 ^ length ys ≡ digit x + 2 * natural ys
pushed_whole x [] = omega arith
pushed_whole x (y ∷ ys) = omega (arith, pushed_whole y ys, digit_twice (last_or y ys) (length ys))

twice_modulo : (d c p n : ℕ) → d + c * p ≡ 0 + 2 * n → IsCongruent p (pos n +ℤ pos n) (pos d)
twice_modulo d c p n e = record { times = pos c; same = omega (arith, ints) }

pub doubled_modulo : (xs : List Bool) → IsCongruent (2 ^ length xs) (signed (doubled xs)) (signed xs +ℤ signed xs)
doubled_modulo xs =
    let p = 2 ^ length xs in
    let d = doubled xs in
    let m : IsCongruent p (signed d) (pos (natural d)) = subst (λ n. IsCongruent (2 ^ n) (signed d) (pos (natural d))) (pushed_length false xs) (signed_modulo d) in
    let t = congruent_back (twice_modulo (natural d) (digit (last_or false xs)) p (natural xs) (pushed_whole false xs)) in
    let v = congruent_back (signed_modulo xs) in
    congruent_on (congruent_on m t) (congruent_sum v v)

-- ---- one row more
-- the row of a digit d and twice what there is
pub rows_length : (y : Bool) (xs zs : List Bool) → length zs ≡ length xs → length (sum (row y xs) (doubled zs) false) ≡ length xs
rows_length y xs zs l = sum_length (row y xs) (doubled zs) false (row_length y xs ∙ sym (pushed_length false zs ∙ l)) ∙ row_length y xs

more_rows : (d u s : ℤ) → ((d *ℤ u) +ℤ ((u *ℤ s) +ℤ (u *ℤ s))) +ℤ pos 0 ≡ u *ℤ (d +ℤ (s +ℤ s))
more_rows d u s =
    let a = *ℤ_comm u (d +ℤ (s +ℤ s)) ∙ distribute d (s +ℤ s) u ∙ ap (λ z. (d *ℤ u) +ℤ z) (distribute s s u ∙ (λ i. *ℤ_comm s u i +ℤ *ℤ_comm s u i)) in
    nothing_more ((d *ℤ u) +ℤ ((u *ℤ s) +ℤ (u *ℤ s))) ∙ sym a
  where
    nothing_more : (z : ℤ) → z +ℤ pos 0 ≡ z
    nothing_more z = omega (arith, ints)

pub rows_modulo : (y : Bool) (xs zs : List Bool) (s : ℤ) → length zs ≡ length xs → IsCongruent (2 ^ length xs) (signed zs) (signed xs *ℤ s) → IsCongruent (2 ^ length xs) (signed (sum (row y xs) (doubled zs) false)) (signed xs *ℤ (pos (digit y) +ℤ (s +ℤ s)))
rows_modulo y xs zs s l c =
    let p = 2 ^ length xs in
    let r = row y xs in
    let t = doubled zs in
    let a : IsCongruent p (signed (sum r t false)) ((signed r +ℤ signed t) +ℤ pos 0) = subst (λ n. IsCongruent (2 ^ n) (signed (sum r t false)) ((signed r +ℤ signed t) +ℤ pos 0)) (row_length y xs) (sum_modulo r t false (row_length y xs ∙ sym (pushed_length false zs ∙ l))) in
    let d : IsCongruent p (signed t) (signed zs +ℤ signed zs) = subst (λ n. IsCongruent (2 ^ n) (signed t) (signed zs +ℤ signed zs)) l (doubled_modulo zs) in
    let e = congruent_on d (congruent_sum c c) in
    let b = congruent_sum (congruent_sum (same_congruent p (signed r) (pos (digit y) *ℤ signed xs) (signed_row y xs)) e) (same_congruent p (pos 0) (pos 0) refl) in
    congruent_on (congruent_on a b) (same_congruent p _ _ (more_rows (pos (digit y)) (signed xs) s))

-- ---- without a sign
pub product_length : (xs ys : List Bool) → length (product xs ys) ≡ length xs
product_length xs [] = length-replicate (length xs) false
product_length xs (y ∷ ys) = rows_length y xs (product xs ys) (product_length xs ys)

natural_cons : (d n : ℕ) → pos d +ℤ (pos n +ℤ pos n) ≡ pos (d + 2 * n)
natural_cons d n = omega (arith, ints)

nothing_times : (u : ℤ) → pos 0 ≡ u *ℤ pos 0
nothing_times (pos a) = omega (arith, ints)
nothing_times (negsuc a) = omega (arith, ints)

pub product_modulo : (xs ys : List Bool) → IsCongruent (2 ^ length xs) (signed (product xs ys)) (signed xs *ℤ pos (natural ys))
product_modulo xs [] = same_congruent _ _ _ (signed_falses (length xs) ∙ nothing_times (signed xs))
product_modulo xs (y ∷ ys) =
    congruent_on (rows_modulo y xs (product xs ys) (pos (natural ys)) (product_length xs ys) (product_modulo xs ys))
    (same_congruent _ _ _ (ap (λ z. signed xs *ℤ z) (natural_cons (digit y) (natural ys))))

naturals_times : (p a b : ℕ) (k : ℤ) → a < p → b < p → pos a ≡ pos b +ℤ (k *ℤ pos p) → a ≡ b
naturals_times p a b (pos zero) h l e = omega (arith, ints)
naturals_times p a b (pos (suc k)) h l e = omega (arith, ints)
naturals_times p a b (negsuc k) h l e = omega (arith, ints)

natural_exact : (p a b : ℕ) → a < p → b < p → IsCongruent p (pos a) (pos b) → a ≡ b
natural_exact p a b h l c = naturals_times p a b c.times h l c.same

pub product_naturals : (xs ys : List Bool) → IsCongruent (2 ^ length xs) (pos (natural (product xs ys))) (pos (natural xs * natural ys))
product_naturals xs ys =
    let p = 2 ^ length xs in
    let z = product xs ys in
    let m : IsCongruent p (signed z) (pos (natural z)) = subst (λ n. IsCongruent (2 ^ n) (signed z) (pos (natural z))) (product_length xs ys) (signed_modulo z) in
    congruent_on (congruent_on (congruent_back m) (product_modulo xs ys)) (congruent_product (signed_modulo xs) (pos (natural ys)))

pub product_exact : (xs ys : List Bool) → natural xs * natural ys < 2 ^ length xs → natural (product xs ys) ≡ natural xs * natural ys
product_exact xs ys h =
    let l = ap (λ n. 2 ^ n) (product_length xs ys) in
    natural_exact (2 ^ length xs) (natural (product xs ys)) (natural xs * natural ys) (omega (arith, natural_below (product xs ys))) h (product_naturals xs ys)

pub product_widened : (xs ys : List Bool) → natural (product (widened (length ys) xs) ys) ≡ natural xs * natural ys
product_widened xs ys =
    let w = natural_widened (length ys) xs in
    let l : length (widened (length ys) xs) ≡ length xs + length ys = length-append xs (replicate (length ys) false) ∙ ap (λ n. length xs + n) (length-replicate (length ys) false) in
    let e = ap (λ n. 2 ^ n) l ∙ pow-add 2 (length xs) (length ys) in
    let h = mul-lt (natural xs) (natural ys) (2 ^ length xs) (2 ^ length ys) (natural_below xs) (natural_below ys) in
    let f = ap (λ n. n * natural ys) w in
    product_exact (widened (length ys) xs) ys (omega (arith, h, e, f)) ∙ f

pub multiplies_naturals : (xs ys : List Bool) → MultipliesNaturals xs ys
multiplies_naturals xs ys = record { as_many = product_length xs ys; exact = product_exact xs ys; whole = product_widened xs ys }

-- ---- two's complement
pub is_product : (n : ℕ) (u v : ℤ) (zs : List Bool) → length zs ≡ n → IsCongruent (2 ^ n) (signed zs) (u *ℤ v) → IsProduct n u v zs
is_product n u v zs l c = record {
  as_many = l;
  modulo = c;
  exact = λ r. exact n (signed zs) (u *ℤ v) (subst (λ k. IsSigned k (signed zs)) l (signed_within zs)) r c;
}

pub product_by_rows : (xs ys : List Bool) → length ys ≡ length xs → IsProduct (length xs) (signed xs) (signed ys) (product xs ys)
product_by_rows xs ys l =
    let p = 2 ^ length xs in
    let m : IsCongruent p (pos (natural ys)) (signed ys) = subst (λ n. IsCongruent (2 ^ n) (pos (natural ys)) (signed ys)) l (congruent_back (signed_modulo ys)) in
    let t = congruent_product m (signed xs) in
    is_product (length xs) (signed xs) (signed ys) (product xs ys) (product_length xs ys)
    (congruent_on (congruent_on (product_modulo xs ys) (same_congruent p _ _ (*ℤ_comm (signed xs) (pos (natural ys)))))
    (congruent_on t (same_congruent p _ _ (*ℤ_comm (signed ys) (signed xs)))))

-- the value in two's complement digit by digit
pub signed_last : (y : Bool) → signed (y ∷ []) ≡ neg_ℤ (pos (digit y))
signed_last true = refl
signed_last false = refl

cons_parts : (d n w : ℕ) → pos (d + 2 * n) -ℤ pos (2 * w) ≡ pos d +ℤ ((pos n -ℤ pos w) +ℤ (pos n -ℤ pos w))
cons_parts d n w = omega (arith, ints)

pub signed_cons : (y z : Bool) (ys : List Bool) → signed (y ∷ z ∷ ys) ≡ pos (digit y) +ℤ (signed (z ∷ ys) +ℤ signed (z ∷ ys))
signed_cons y z ys =
    ap (λ w. pos (natural (y ∷ z ∷ ys)) -ℤ pos w) (digit_twice (last_or z ys) (suc (length ys)))
    ∙ cons_parts (digit y) (natural (z ∷ ys)) (digit (last_or z ys) * 2 ^ suc (length ys))

pub signed_product_length : (xs ys : List Bool) → length (signed_product xs ys) ≡ length xs
signed_product_length xs [] = length-replicate (length xs) false
signed_product_length xs (y ∷ []) = negation_length (row y xs) ∙ row_length y xs
signed_product_length xs (y ∷ z ∷ ys) = rows_length y xs (signed_product xs (z ∷ ys)) (signed_product_length xs (z ∷ ys))

sign_row : (d u : ℤ) → neg_ℤ (d *ℤ u) ≡ u *ℤ neg_ℤ d
sign_row d u = sym (negation_out d u) ∙ *ℤ_comm (neg_ℤ d) u

pub signed_product_modulo : (xs ys : List Bool) → IsCongruent (2 ^ length xs) (signed (signed_product xs ys)) (signed xs *ℤ signed ys)
signed_product_modulo xs [] = same_congruent _ _ _ (signed_falses (length xs) ∙ nothing_times (signed xs))
signed_product_modulo xs (y ∷ []) =
    let r = row y xs in
    let m = subst (λ n. IsCongruent (2 ^ n) (signed (negation r)) (neg_ℤ (signed r))) (row_length y xs) (negation_modulo r) in
    congruent_on m (same_congruent _ _ _ (ap neg_ℤ (signed_row y xs) ∙ sign_row (pos (digit y)) (signed xs) ∙ ap (λ z. signed xs *ℤ z) (sym (signed_last y))))
signed_product_modulo xs (y ∷ z ∷ ys) =
    congruent_on (rows_modulo y xs (signed_product xs (z ∷ ys)) (signed (z ∷ ys)) (signed_product_length xs (z ∷ ys)) (signed_product_modulo xs (z ∷ ys)))
    (same_congruent _ _ _ (ap (λ w. signed xs *ℤ w) (sym (signed_cons y z ys))))

-- ---- by absolute values
size_above : (u : ℤ) → false ≡ int_lt u (pos 0) → u ≡ pos (unsigned_abs u)
size_above u e = omega (arith, ints)

size_below : (u : ℤ) → true ≡ int_lt u (pos 0) → u ≡ neg_ℤ (pos (unsigned_abs u))
size_below u e = omega (arith, ints)

negations_out : (x w : ℤ) → neg_ℤ x *ℤ neg_ℤ w ≡ x *ℤ w
negations_out x w = negation_out x (neg_ℤ w) ∙ ap neg_ℤ (*ℤ_comm x (neg_ℤ w) ∙ negation_out w x) ∙ neg_ℤ-neg_ℤ (w *ℤ x) ∙ *ℤ_comm w x

-- the product by sizes and signs
pub by_sizes : (b c : Bool) (u v : ℤ) → b ≡ int_lt u (pos 0) → c ≡ int_lt v (pos 0) → cond (exclusive_or b c) (neg_ℤ (pos (unsigned_abs u) *ℤ pos (unsigned_abs v))) (pos (unsigned_abs u) *ℤ pos (unsigned_abs v)) ≡ u *ℤ v
by_sizes false false u v e f = let g = size_above u e in let h = size_above v f in λ i. sym g i *ℤ sym h i
by_sizes false true u v e f =
    let g = size_above u e in
    let h = size_below v f in
    let m = pos (unsigned_abs u) in
    let n = pos (unsigned_abs v) in
    ap neg_ℤ (*ℤ_comm m n) ∙ sym (negation_out n m) ∙ *ℤ_comm (neg_ℤ n) m ∙ (λ i. sym g i *ℤ sym h i)
by_sizes true false u v e f =
    let g = size_below u e in
    let h = size_above v f in
    sym (negation_out (pos (unsigned_abs u)) (pos (unsigned_abs v))) ∙ (λ i. sym g i *ℤ sym h i)
by_sizes true true u v e f =
    let g = size_below u e in
    let h = size_below v f in
    sym (negations_out (pos (unsigned_abs u)) (pos (unsigned_abs v))) ∙ (λ i. sym g i *ℤ sym h i)

-- negation where c is true, but for a multiple of 2^n
pub where_modulo : (c : Bool) (zs : List Bool) (w : ℤ) → IsCongruent (2 ^ length zs) (signed zs) w → IsCongruent (2 ^ length zs) (signed (negation_where c zs)) (cond c (neg_ℤ w) w)
where_modulo true zs w h = congruent_on (same_congruent _ _ _ (ap signed (where_true true zs refl))) (congruent_on (negation_modulo zs) (congruent_negation h))
where_modulo false zs w h = congruent_on (same_congruent _ _ _ (ap signed (where_false false zs refl))) h

absolutes_modulo : (xs ys : List Bool) → IsCongruent (2 ^ length xs) (signed (product (absolute xs) (absolute ys))) (pos (unsigned_abs (signed xs)) *ℤ pos (unsigned_abs (signed ys)))
absolutes_modulo xs ys =
    let a = absolute xs in
    let b = absolute ys in
    let u = absolute_size xs in
    let v = absolute_size ys in
    let c = congruent_on (product_modulo a b) (congruent_product (signed_modulo a) (pos (natural b))) in
    let d = congruent_on c (same_congruent _ _ _ (λ i. pos (u i) *ℤ pos (v i))) in
    subst (λ n. IsCongruent (2 ^ n) (signed (product a b)) (pos (unsigned_abs (signed xs)) *ℤ pos (unsigned_abs (signed ys)))) (absolute_length xs) d

pub absolutes_length : (xs ys : List Bool) → length (product (absolute xs) (absolute ys)) ≡ length xs
absolutes_length xs ys = product_length (absolute xs) (absolute ys) ∙ absolute_length xs

pub product_by_absolutes : (xs ys : List Bool) → IsProduct (length xs) (signed xs) (signed ys) (product_of_absolutes xs ys)
product_by_absolutes xs ys =
    let c = exclusive_or (sign xs) (sign ys) in
    let z = product (absolute xs) (absolute ys) in
    let w = pos (unsigned_abs (signed xs)) *ℤ pos (unsigned_abs (signed ys)) in
    let l = absolutes_length xs ys in
    let m = where_modulo c z w (subst (λ n. IsCongruent (2 ^ n) (signed z) w) (sym l) (absolutes_modulo xs ys)) in
    let s = by_sizes (sign xs) (sign ys) (signed xs) (signed ys) (sign_tells xs) (sign_tells ys) in
    is_product (length xs) (signed xs) (signed ys) (product_of_absolutes xs ys) (where_length c z ∙ l)
    (subst (λ n. IsCongruent (2 ^ n) (signed (product_of_absolutes xs ys)) (signed xs *ℤ signed ys)) l (congruent_on m (same_congruent _ _ _ s)))

pub multiplies : (xs ys : List Bool) → Multiplies xs ys
multiplies xs ys = record {
  by_rows = product_by_rows xs ys;
  by_sign_row = is_product (length xs) (signed xs) (signed ys) (signed_product xs ys) (signed_product_length xs ys) (signed_product_modulo xs ys);
  by_absolutes = product_by_absolutes xs ys;
}

-- ---- how many digits a product has
pub size_bound : (p : ℕ) (u : ℤ) → neg_ℤ (pos p) ≤ℤ (u +ℤ u) → (u +ℤ u) <ℤ pos p → 2 * unsigned_abs u ≤ p
size_bound p u a b = omega (arith, ints)

size_range : (p : ℕ) (w : ℤ) → 0 < p → 4 * unsigned_abs w ≤ p → (neg_ℤ (pos p) ≤ℤ (w +ℤ w)) × ((w +ℤ w) <ℤ pos p)
size_range p w h k = (omega (arith, ints), omega (arith, ints))

pub has_product_range : (n m : ℕ) (u v : ℤ) → HasProductRange n m u v
has_product_range n m u v r s =
    let a = size_bound (2 ^ n) u r.above r.below in
    let b = size_bound (2 ^ m) v s.above s.below in
    let h = mul-le (2 * unsigned_abs u) (2 * unsigned_abs v) (2 ^ n) (2 ^ m) a b in
    let e = pow-add 2 n m in
    let k = size_range (2 ^ (n + m)) (u *ℤ v) (pow_pos (n + m)) (omega (arith, h, e, unsigned_abs-mul u v)) in
    record { above = k.0; below = k.1 }
