-- The rules of the operations are sound.
use Rattle.std.proofs.Common.{◌≡◌, ℕ, suc, ◌*◌, ◌≤◌, ℤ, pos, negsuc, neg_ℤ, ◌+ℤ◌, ◌-ℤ◌, ◌*ℤ◌, ◌≤ℤ◌, ◌<ℤ◌, refl, sym, subst, arith, [], ◌∷◌, length, zero, ◌/◌, ◌%◌, ◌<◌, ◌⊎◌, inl, inr, ap, ◌∙◌, ◌++◌, unsigned_abs}
use Rattle.std.proofs.Math.Nat.{mul-le-mul_left, div-mul-le_self, mod-le, mod-zero}
use Rattle.std.proofs.Math.IntN.{*ℤ_comm}
use Rattle.std.proofs.lemmas.Int.{ints, clamps, by_lt_z, quot-rem, rem_below}
use Rattle.std.specs.Int.{int_min, int_max}
use Rattle.intervals.specs.Ends.{Ends, Holds}
use Rattle.intervals.specs.Numbers.{size, total, quotient, remainder}
use Rattle.intervals.specs.Rules.{sum, difference, product, smaller, greater, negation, absolute, multiple, ratio, modulus, greatest_size, end_quotients, ends_above_zero, ends_below_zero, zero_of}
use Rattle.intervals.specs.Sound.{IsSound, AreSound, HoldsBoth, TotalIsSound, Divides, DividesByZero}
use Rattle.intervals.proofs.ProductLemmas.{corners, multiple_order}
use Rattle.intervals.proofs.Comparisons.{is_le, is_not_le}
use Rattle.std.proofs.lemmas.Nat.{le-div}
use Rattle.intervals.proofs.HullLemmas.{Among, Among_left, Among_right, hull_holds}
use Rattle.intervals.proofs.DivisionLemmas.{part_above, part_below, zero_held, quotient_by_zero}
use Rattle.intervals.proofs.RemainderLemmas.{modulus_with_zero, modulus_without_zero}

pub sum_sound : AreSound sum ◌+ℤ◌
sum_sound a b x y h k = record { above = omega (arith, ints); below = omega (arith, ints) }

pub difference_sound : AreSound difference ◌-ℤ◌
difference_sound a b x y h k = record { above = omega (arith, ints); below = omega (arith, ints) }

pub negation_sound : IsSound negation neg_ℤ
negation_sound a x h = record { above = omega (arith, ints); below = omega (arith, ints) }

pub smaller_sound : AreSound smaller int_min
smaller_sound a b x y h k = record { above = omega (arith, ints, clamps); below = omega (arith, ints, clamps) }

pub greater_sound : AreSound greater int_max
greater_sound a b x y h k = record { above = omega (arith, ints, clamps); below = omega (arith, ints, clamps) }

pub hull_sound : (a b : Ends) → HoldsBoth a b
hull_sound a b = record {
  left = λ x h. record { above = omega (arith, ints, clamps); below = omega (arith, ints, clamps) };
  right = λ x h. record { above = omega (arith, ints, clamps); below = omega (arith, ints, clamps) };
}

-- ---- the absolute value
absolute_above : (a : Ends) → pos 0 ≤ℤ a.lo → absolute a ≡ a
absolute_above a h = let p = is_le (pos 0) a.lo h in rw p refl

absolute_below : (a : Ends) → a.lo <ℤ pos 0 → a.hi ≤ℤ pos 0 → absolute a ≡ negation a
absolute_below a h k = let p = is_not_le (pos 0) a.lo h in let q = is_le a.hi (pos 0) k in rw (p, q) refl

absolute_across : (a : Ends) → a.lo <ℤ pos 0 → pos 0 <ℤ a.hi → absolute a ≡ record { lo = pos 0; hi = int_max (neg_ℤ a.lo) a.hi }
absolute_across a h k = let p = is_not_le (pos 0) a.lo h in let q = is_not_le a.hi (pos 0) k in rw (p, q) refl

size_above : (x : ℤ) → pos 0 ≤ℤ x → size x ≡ x
size_above x h = omega (arith, ints)

size_below : (x : ℤ) → x ≤ℤ pos 0 → size x ≡ neg_ℤ x
size_below x h = omega (arith, ints)

size_within : (lo hi x : ℤ) → lo ≤ℤ x → x ≤ℤ hi → (pos 0 ≤ℤ size x) × (size x ≤ℤ int_max (neg_ℤ lo) hi)
size_within lo hi (pos n) h k = omega (arith, ints, clamps)
size_within lo hi (negsuc n) h k = omega (arith, ints, clamps)

pub absolute_sound : IsSound absolute size
absolute_sound a x h =
    by_lt_z a.lo (pos 0)
    (λ low. by_lt_z (pos 0) a.hi
    (λ high. let w = size_within a.lo a.hi x h.above h.below in subst (λ (e : Ends). Holds e (size x)) (sym (absolute_across a low high)) (record { above = w.0; below = w.1 }))
    (λ under. subst (λ (e : Ends). Holds e (size x)) (sym (absolute_below a low under)) (subst (Holds (negation a)) (sym (size_below x (omega (arith, ints)))) (negation_sound a x h))))
    (λ some. subst (λ (e : Ends). Holds e (size x)) (sym (absolute_above a some)) (subst (Holds a) (sym (size_above x (omega (arith, ints)))) h))

-- ---- multiples
pub multiple_sound : (n : ℕ) → IsSound (multiple n) (λ x. pos n *ℤ x)
multiple_sound n a x h = record { above = multiple_order n a.lo x h.above; below = multiple_order n x a.hi h.below }

multiple_one_more : (n : ℕ) (z : ℤ) → z +ℤ (pos n *ℤ z) ≡ pos (suc n) *ℤ z
multiple_one_more n (pos m) = omega (arith, ints)
multiple_one_more n (negsuc m) = omega (arith, ints)

pub total_sound : TotalIsSound
total_sound a [] h = record { above = omega (arith, ints); below = omega (arith, ints) }
total_sound a (x ∷ xs) h =
    let rest = total_sound a xs h.1 in
    let more = sum_sound a (multiple (length xs) a) x (total xs) h.0 rest in
    record {
      above = subst (λ z. z ≤ℤ (x +ℤ total xs)) (multiple_one_more (length xs) a.lo) more.above;
      below = subst (λ z. (x +ℤ total xs) ≤ℤ z) (multiple_one_more (length xs) a.hi) more.below;
    }

-- ---- products
-- what lies between two numbers of a range is in it
pub convex : (e : Ends) (u v z : ℤ) → u ≤ℤ z → z ≤ℤ v → Holds e u → Holds e v → Holds e z
convex e u v z h k p q = record { above = omega (arith, ints); below = omega (arith, ints) }

negative_order : (n : ℕ) (a b : ℤ) → a ≤ℤ b → (negsuc n *ℤ b) ≤ℤ (negsuc n *ℤ a)
negative_order n (pos a) (pos b) h =
    let m : suc n * a ≤ suc n * b = mul-le-mul_left (suc n) (omega (arith, ints)) in
    omega (arith, ints)
negative_order n (pos a) (negsuc b) h = absurd h.le
negative_order n (negsuc a) (pos b) h = omega (arith, ints)
negative_order n (negsuc a) (negsuc b) h =
    let m : suc n * suc b ≤ suc n * suc a = mul-le-mul_left (suc n) (omega (arith, ints)) in
    omega (arith, ints)

-- a range that holds the products of y with the ends of a holds those with all its numbers
line : (e a : Ends) (y x : ℤ) → Holds a x → Holds e (y *ℤ a.lo) → Holds e (y *ℤ a.hi) → Holds e (y *ℤ x)
line e a (pos n) x h p q = convex e _ _ _ (multiple_order n a.lo x h.above) (multiple_order n x a.hi h.below) p q
line e a (negsuc n) x h p q = convex e _ _ _ (negative_order n x a.hi h.below) (negative_order n a.lo x h.above) q p

pub product_sound : AreSound product ◌*ℤ◌
product_sound a b x y h k =
    let e = product a b in
    let c = corners (a.lo *ℤ b.lo) (a.lo *ℤ b.hi) (a.hi *ℤ b.lo) (a.hi *ℤ b.hi) in
    let low = subst (Holds e) (*ℤ_comm a.lo y) (line e b a.lo y k c.first c.second) in
    let high = subst (Holds e) (*ℤ_comm a.hi y) (line e b a.hi y k c.third c.last) in
    subst (Holds e) (*ℤ_comm y x) (line e a y x h low high)

-- ---- quotients of naturals
more_dividend : (a b k : ℕ) → 0 < k → a ≤ b → a / k ≤ b / k
more_dividend a b k s h = le-div (a / k) b k s (omega (arith, div-mul-le_self a k))

more_divisor : (a m n : ℕ) → 0 < m → m ≤ n → a / n ≤ a / m
more_divisor a m n s h =
    let p : (a / n) * m ≤ (a / n) * n = mul-le-mul_left (a / n) h in
    le-div (a / n) a m s (omega (arith, div-mul-le_self a n))

-- ---- monotone in the dividend, and between in the divisor, which is above 0
dividend_order : (k : ℕ) (a b : ℤ) → 0 < k → a ≤ℤ b → quotient a (pos k) ≤ℤ quotient b (pos k)
dividend_order k (pos a) (pos b) s h = let p = more_dividend a b k s (omega (arith, ints)) in omega (arith, ints)
dividend_order k (pos a) (negsuc b) s h = absurd h.le
dividend_order k (negsuc a) (pos b) s h = omega (arith, ints)
dividend_order k (negsuc a) (negsuc b) s h = let p = more_dividend (suc b) (suc a) k s (omega (arith, ints)) in omega (arith, ints)

divisor_between : (e : Ends) (x : ℤ) (k m n : ℕ) → 0 < m → m ≤ k → k ≤ n → Holds e (quotient x (pos m)) → Holds e (quotient x (pos n)) → Holds e (quotient x (pos k))
divisor_between e (pos a) k m n s h l p q =
    let u = more_divisor a m k s h in
    let v = more_divisor a k n (omega arith) l in
    convex e _ _ _ (omega (arith, ints)) (omega (arith, ints)) q p
divisor_between e (negsuc a) k m n s h l p q =
    let u = more_divisor (suc a) m k s h in
    let v = more_divisor (suc a) k n (omega arith) l in
    convex e _ _ _ (omega (arith, ints)) (omega (arith, ints)) p q

-- a range that holds the four quotients of ends holds all quotients
pub record Quotients (e a : Ends) (c d : ℤ) : Type 0 where
  pub first : Holds e (quotient a.lo c)
  pub second : Holds e (quotient a.hi c)
  pub third : Holds e (quotient a.lo d)
  pub last : Holds e (quotient a.hi d)

above_by : (e a : Ends) (k m n : ℕ) (x : ℤ) → 0 < m → m ≤ k → k ≤ n → Holds a x → Quotients e a (pos m) (pos n) → Holds e (quotient x (pos k))
above_by e a k m n x s h l held q =
    convex e _ _ _
    (dividend_order k a.lo x (omega arith) held.above) (dividend_order k x a.hi (omega arith) held.below)
    (divisor_between e a.lo k m n s h l q.first q.third) (divisor_between e a.hi k m n s h l q.second q.last)

above_all : (e a : Ends) (c d x y : ℤ) → pos 0 <ℤ c → c ≤ℤ y → y ≤ℤ d → Holds a x → Quotients e a c d → Holds e (quotient x y)
above_all e a (pos m) (pos n) x (pos k) s h l held q = above_by e a k m n x (omega (arith, ints)) (omega (arith, ints)) (omega (arith, ints)) held q
above_all e a (negsuc m) d x y s h l held q = absurd s.lt
above_all e a (pos m) d x (negsuc k) s h l held q = absurd h.le
above_all e a (pos m) (negsuc n) x (pos k) s h l held q = absurd l.le

-- ---- divisors below 0, by their mirror image
neg_twice : (z : ℤ) → neg_ℤ (neg_ℤ z) ≡ z
neg_twice z = omega (arith, ints)

mirror : (x : ℤ) (k : ℕ) → quotient x (negsuc k) ≡ neg_ℤ (quotient x (pos (suc k)))
mirror (pos a) k = refl
mirror (negsuc a) k = sym (neg_twice (pos (suc a / suc k)))

mirrored : (e : Ends) (x : ℤ) (k : ℕ) → Holds e (quotient x (negsuc k)) → Holds (negation e) (quotient x (pos (suc k)))
mirrored e x k h = let p : neg_ℤ (quotient x (negsuc k)) ≡ quotient x (pos (suc k)) = ap neg_ℤ (mirror x k) ∙ neg_twice (quotient x (pos (suc k))) in subst (Holds (negation e)) p (negation_sound e _ h)

holds_mirror : (e : Ends) (z : ℤ) → Holds (negation e) z → Holds e (neg_ℤ z)
holds_mirror e z h = record { above = omega (arith, ints); below = omega (arith, ints) }

not_below_zero : (n : ℕ) → ¬ (pos n <ℤ pos 0)
not_below_zero n h = omega (arith, ints)

below_all : (e a : Ends) (c d x y : ℤ) → d <ℤ pos 0 → c ≤ℤ y → y ≤ℤ d → Holds a x → Quotients e a c d → Holds e (quotient x y)
below_all e a (negsuc m) (negsuc n) x (negsuc k) s h l held q =
    let r : Quotients (negation e) a (pos (suc n)) (pos (suc m)) = record {
      first = mirrored e a.lo n q.third;
      second = mirrored e a.hi n q.last;
      third = mirrored e a.lo m q.first;
      last = mirrored e a.hi m q.second;
    } in
    subst (Holds e) (sym (mirror x k)) (holds_mirror e _ (above_by (negation e) a (suc k) (suc n) (suc m) x (omega (arith, ints)) (omega (arith, ints)) (omega (arith, ints)) held r))
below_all e a c (pos n) x y s h l held q = absurd (not_below_zero n s)
below_all e a c (negsuc n) x (pos k) s h l held q = absurd l.le
below_all e a (pos m) (negsuc n) x (negsuc k) s h l held q = absurd h.le

-- ---- the rule
taken_below : (a b : Ends) (x : ℤ) → Among x (end_quotients a (ends_below_zero b)) → Holds (ratio a b) x
taken_below a b x h = hull_holds x (end_quotients a (ends_below_zero b) ++ (end_quotients a (ends_above_zero b) ++ zero_of b)) (Among_left x (end_quotients a (ends_below_zero b)) (end_quotients a (ends_above_zero b) ++ zero_of b) h)

taken_above : (a b : Ends) (x : ℤ) → Among x (end_quotients a (ends_above_zero b)) → Holds (ratio a b) x
taken_above a b x h =
    hull_holds x (end_quotients a (ends_below_zero b) ++ (end_quotients a (ends_above_zero b) ++ zero_of b))
    (Among_right x (end_quotients a (ends_below_zero b)) (end_quotients a (ends_above_zero b) ++ zero_of b)
    (Among_left x (end_quotients a (ends_above_zero b)) (zero_of b) h))

taken_zero : (a b : Ends) (x : ℤ) → Among x (zero_of b) → Holds (ratio a b) x
taken_zero a b x h =
    hull_holds x (end_quotients a (ends_below_zero b) ++ (end_quotients a (ends_above_zero b) ++ zero_of b))
    (Among_right x (end_quotients a (ends_below_zero b)) (end_quotients a (ends_above_zero b) ++ zero_of b)
    (Among_right x (end_quotients a (ends_above_zero b)) (zero_of b) h))

four_of : (e a : Ends) (c d : ℤ) → ((x : ℤ) → Among x (end_quotients a (c ∷ d ∷ [])) → Holds e x) → Quotients e a c d
four_of e a c d f = record {
  first = f (quotient a.lo c) (inl refl);
  second = f (quotient a.hi c) (inr (inl refl));
  third = f (quotient a.lo d) (inr (inr (inl refl)));
  last = f (quotient a.hi d) (inr (inr (inr (inl refl))));
}

by_above : (a b : Ends) (x y : ℤ) → Holds a x → Holds b y → pos 0 <ℤ y → Holds (ratio a b) (quotient x y)
by_above a b x y h k s =
    let e = ratio a b in
    let c = int_max b.lo (pos 1) in
    let lists = part_above b (omega (arith, ints, k.below)) in
    above_all e a c b.hi x y (omega (arith, ints, clamps)) (omega (arith, ints, clamps, k.above)) k.below h
    (four_of e a c b.hi (λ z m. taken_above a b z (subst (λ ds. Among z (end_quotients a ds)) (sym lists) m)))

by_below : (a b : Ends) (x y : ℤ) → Holds a x → Holds b y → y <ℤ pos 0 → Holds (ratio a b) (quotient x y)
by_below a b x y h k s =
    let e = ratio a b in
    let d = int_min b.hi (negsuc 0) in
    let lists = part_below b (omega (arith, ints, k.above)) in
    below_all e a b.lo d x y (omega (arith, ints, clamps)) k.above (omega (arith, ints, clamps, k.below)) h
    (four_of e a b.lo d (λ z m. taken_below a b z (subst (λ ds. Among z (end_quotients a ds)) (sym lists) m)))

by_zero : (a b : Ends) (x y : ℤ) → Holds b y → y ≡ pos 0 → Holds (ratio a b) (quotient x y)
by_zero a b x y k e =
    let lists = zero_held b (omega (arith, ints, k.above)) (omega (arith, ints, k.below)) in
    taken_zero a b (quotient x y) (subst (Among (quotient x y)) (sym lists) (inl (ap (quotient x) e ∙ quotient_by_zero x)))

pub ratio_sound : AreSound ratio quotient
ratio_sound a b x y h k =
    by_lt_z y (pos 0)
    (λ low. by_below a b x y h k low)
    (λ some. by_lt_z (pos 0) y
    (λ high. by_above a b x y h k high)
    (λ none. by_zero a b x y k (omega (arith, ints))))

-- ---- remainders
neg_small : (m n : ℕ) → m ≤ suc n → (negsuc n ≤ℤ neg_ℤ (pos m)) × (neg_ℤ (pos m) ≤ℤ pos 0)
neg_small m n h = omega (arith, ints)

-- a remainder lies between 0 and the dividend
remainder_between : (x y : ℤ) → (int_min x (pos 0) ≤ℤ remainder x y) × (remainder x y ≤ℤ int_max x (pos 0))
remainder_between (pos a) y = let m = mod-le a (unsigned_abs y) in (omega (arith, ints, clamps), omega (arith, ints, clamps))
remainder_between (negsuc a) y = let m = neg_small (suc a % unsigned_abs y) a (mod-le (suc a) (unsigned_abs y)) in (omega (arith, ints, clamps, m.0), omega (arith, ints, clamps, m.1))

some_size : (y : ℤ) → ¬ (y ≡ pos 0) → 0 < unsigned_abs y
some_size (pos zero) n = absurd (n refl)
some_size (pos (suc k)) n = omega arith
some_size (negsuc k) n = omega arith

remainder_smaller : (x y : ℤ) → ¬ (y ≡ pos 0) → size (remainder x y) <ℤ size y
remainder_smaller x y n = let b = rem_below x y (some_size y n) in omega (arith, ints)

remainder_below : (x y : ℤ) → x ≤ℤ pos 0 → remainder x y ≤ℤ pos 0
remainder_below x y h = let b = remainder_between x y in omega (arith, ints, clamps)

remainder_above : (x y : ℤ) → pos 0 ≤ℤ x → pos 0 ≤ℤ remainder x y
remainder_above x y h = let b = remainder_between x y in omega (arith, ints, clamps)

pub divides : (a b : ℤ) → Divides a b
divides a b = record {
  whole = sym (quot-rem a b);
  not_below = remainder_above a b;
  not_above = remainder_below a b;
  smaller = remainder_smaller a b;
}

remainder_by_zero : (a : ℤ) → remainder a (pos 0) ≡ a
remainder_by_zero (pos a) = ap pos (mod-zero a)
remainder_by_zero (negsuc a) = ap (λ n. neg_ℤ (pos n)) (mod-zero (suc a))

pub divides_by_zero : (a : ℤ) → DividesByZero a
divides_by_zero a = record { none = quotient_by_zero a; all = remainder_by_zero a }

size_at_most : (lo hi y : ℤ) → lo ≤ℤ y → y ≤ℤ hi → size y ≤ℤ int_max (size lo) (size hi)
size_at_most lo hi (pos n) h k = omega (arith, ints, clamps)
size_at_most lo hi (negsuc n) h k = omega (arith, ints, clamps)

-- the ends of the rule, as bounds
bounded_above : (r s t m h : ℤ) → r ≤ℤ t → t ≤ℤ int_max h (pos 0) → size r <ℤ s → s ≤ℤ m → r ≤ℤ int_min (int_max h (pos 0)) (m -ℤ pos 1)
bounded_above (pos n) s t m h p q u v = omega (arith, ints, clamps)
bounded_above (negsuc n) s t m h p q u v = omega (arith, ints, clamps)

bounded_below : (r s t m l : ℤ) → t ≤ℤ r → int_min l (pos 0) ≤ℤ t → size r <ℤ s → s ≤ℤ m → int_max (int_min l (pos 0)) (pos 1 -ℤ m) ≤ℤ r
bounded_below (pos n) s t m l p q u v = omega (arith, ints, clamps)
bounded_below (negsuc n) s t m l p q u v = omega (arith, ints, clamps)

min_monotone : (a b : ℤ) → a ≤ℤ b → int_min a (pos 0) ≤ℤ int_min b (pos 0)
min_monotone a b h = omega (arith, ints, clamps)

max_monotone : (a b : ℤ) → a ≤ℤ b → int_max a (pos 0) ≤ℤ int_max b (pos 0)
max_monotone a b h = omega (arith, ints, clamps)

le_trans : (a b c : ℤ) → a ≤ℤ b → b ≤ℤ c → a ≤ℤ c
le_trans a b c h k = omega (arith, ints)

within_dividend : (a : Ends) (x y : ℤ) → Holds a x → Holds (record { lo = int_min a.lo (pos 0); hi = int_max a.hi (pos 0) }) (remainder x y)
within_dividend a x y h =
    let b = remainder_between x y in
    record {
      above = le_trans _ _ _ (min_monotone a.lo x h.above) b.0;
      below = le_trans _ _ _ b.1 (max_monotone x a.hi h.below);
    }

without_zero : (a b : Ends) (x y : ℤ) → Holds a x → Holds b y → (pos 0 <ℤ b.lo) ⊎ (b.hi <ℤ pos 0) → ¬ (y ≡ pos 0) → Holds (modulus a b) (remainder x y)
without_zero a b x y h k o some =
    let w = remainder_between x y in
    let small = remainder_smaller x y some in
    let most = size_at_most b.lo b.hi y k.above k.below in
    subst (λ (e : Ends). Holds e (remainder x y)) (sym (modulus_without_zero a b o))
    (record {
      above = bounded_below (remainder x y) (size y) (int_min x (pos 0)) (greatest_size b) a.lo w.0 (min_monotone a.lo x h.above) small most;
      below = bounded_above (remainder x y) (size y) (int_max x (pos 0)) (greatest_size b) a.hi w.1 (max_monotone x a.hi h.below) small most;
    })

apart_above : (b : Ends) (y : ℤ) → Holds b y → pos 0 <ℤ b.lo → ¬ (y ≡ pos 0)
apart_above b y k h e = omega (arith, ints, k.above)

apart_below : (b : Ends) (y : ℤ) → Holds b y → b.hi <ℤ pos 0 → ¬ (y ≡ pos 0)
apart_below b y k h e = omega (arith, ints, k.below)

pub modulus_sound : AreSound modulus remainder
modulus_sound a b x y h k =
    by_lt_z (pos 0) b.lo
    (λ high. without_zero a b x y h k (inl high) (apart_above b y k high))
    (λ some. by_lt_z b.hi (pos 0)
    (λ low. without_zero a b x y h k (inr low) (apart_below b y k low))
    (λ rest. subst (λ (e : Ends). Holds e (remainder x y)) (sym (modulus_with_zero a b some rest)) (within_dividend a x y h)))
