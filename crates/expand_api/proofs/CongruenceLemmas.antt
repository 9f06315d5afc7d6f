-- Whole numbers that differ by a multiple of a number.
use Rattle.std.proofs.Common.{◌≡◌, ℕ, zero, suc, ◌*◌, ◌^◌, ℤ, pos, negsuc, neg_ℤ, ◌+ℤ◌, ◌*ℤ◌, ◌≤ℤ◌, ◌<ℤ◌, sym, ap, ◌∙◌, arith}
use Rattle.std.proofs.lemmas.Int.{ints}
use Rattle.std.proofs.Math.IntN.{*ℤ_comm}
use borrow.Author.Differences.{up, down, sum_is_lem, neg_is, product_is}
use Rattle.expand_api.specs.Digits.Values.{IsCongruent, IsExact}

-- ---- laws of products
pub distribute : (x y w : ℤ) → (x +ℤ y) *ℤ w ≡ (x *ℤ w) +ℤ (y *ℤ w)
distribute x y w =
    let e = sum_is_lem x y in
    omega (arith, ints, ap (λ n. n * up w) e, ap (λ n. n * down w) e)

pub negation_out : (x w : ℤ) → neg_ℤ x *ℤ w ≡ neg_ℤ (x *ℤ w)
negation_out x w =
    let e = neg_is x in
    omega (arith, ints, ap (λ n. n * up w) e.0, ap (λ n. n * down w) e.0, ap (λ n. n * up w) e.1, ap (λ n. n * down w) e.1)

pub associate : (x y w : ℤ) → (x *ℤ y) *ℤ w ≡ x *ℤ (y *ℤ w)
associate x y w =
    let p = product_is x y in
    let q = product_is y w in
    omega (arith, ints, ap (λ n. n * up w) p.0, ap (λ n. n * down w) p.0, ap (λ n. n * up w) p.1, ap (λ n. n * down w) p.1, ap (λ n. up x * n) q.0, ap (λ n. down x * n) q.0, ap (λ n. up x * n) q.1, ap (λ n. down x * n) q.1)

exchange : (k q w : ℤ) → (k *ℤ q) *ℤ w ≡ (k *ℤ w) *ℤ q
exchange k q w = associate k q w ∙ ap (λ z. k *ℤ z) (*ℤ_comm q w) ∙ sym (associate k w q)

-- ---- congruence
pub same_congruent : (p : ℕ) (u v : ℤ) → u ≡ v → IsCongruent p u v
same_congruent p u v e = record { times = pos 0; same = omega (arith, ints) }

pub congruent_back : {p : ℕ} {u v : ℤ} → IsCongruent p u v → IsCongruent p v u
congruent_back {p} {u} {v} c = record { times = neg_ℤ c.times; same = omega (arith, ints, c.same, negation_out c.times (pos p)) }

pub congruent_on : {p : ℕ} {u v w : ℤ} → IsCongruent p u v → IsCongruent p v w → IsCongruent p u w
congruent_on {p} {u} {v} {w} c d = record { times = c.times +ℤ d.times; same = omega (arith, ints, c.same, d.same, distribute c.times d.times (pos p)) }

pub congruent_sum : {p : ℕ} {u v x y : ℤ} → IsCongruent p u v → IsCongruent p x y → IsCongruent p (u +ℤ x) (v +ℤ y)
congruent_sum {p} {u} {v} {x} {y} c d = record { times = c.times +ℤ d.times; same = omega (arith, ints, c.same, d.same, distribute c.times d.times (pos p)) }

pub congruent_negation : {p : ℕ} {u v : ℤ} → IsCongruent p u v → IsCongruent p (neg_ℤ u) (neg_ℤ v)
congruent_negation {p} {u} {v} c = record { times = neg_ℤ c.times; same = omega (arith, ints, c.same, negation_out c.times (pos p)) }

pub congruent_product : {p : ℕ} {u v : ℤ} → IsCongruent p u v → (w : ℤ) → IsCongruent p (u *ℤ w) (v *ℤ w)
congruent_product {p} {u} {v} c w = record {
  times = c.times *ℤ w;
  same = ap (λ z. z *ℤ w) c.same ∙ distribute v (c.times *ℤ pos p) w ∙ ap (λ z. (v *ℤ w) +ℤ z) (exchange c.times (pos p) w);
}

exact_times : (p : ℕ) (u v k : ℤ) → neg_ℤ (pos p) ≤ℤ (u +ℤ u) → (u +ℤ u) <ℤ pos p → neg_ℤ (pos p) ≤ℤ (v +ℤ v) → (v +ℤ v) <ℤ pos p → u ≡ v +ℤ (k *ℤ pos p) → u ≡ v
exact_times p u v (pos zero) a b c d e = omega (arith, ints)
exact_times p u v (pos (suc k)) a b c d e = omega (arith, ints)
exact_times p u v (negsuc k) a b c d e = omega (arith, ints)

pub exact : (n : ℕ) (u v : ℤ) → IsExact n u v
exact n u v a b c = exact_times (2 ^ n) u v c.times a.above a.below b.above b.below c.same
