-- Values of literals and of equivalences.
use Rattle.std.proofs.Common.{◌≡◌, ◌≢◌, ℕ, zero, suc, ◌*◌, ◌/◌, ◌%◌, ◌≤◌, ◌==◌, min, max, Bool, true, false, not, refl, sym, ap, ◌∙◌, ◌⊎◌, inl, inr, arith, if◌then◌else◌}
use Rattle.lll_core.specs.Signals.{signal_of}
use Rattle.lll_core.specs.Tables.{Instant, signal_value, value, are_equal}
use Rattle.lll_core.specs.Drafts.{lower, upper}

pub value-positive : (now : Instant) (n : ℕ) → value now (2 * n) ≡ signal_value now n
value-positive now n =
    let parity : (2 * n) % 2 ≡ 0 = omega arith in
    let half : 2 * n / 2 ≡ n = omega arith in
    rw (parity, half) refl

pub value-even : (now : Instant) (a : ℕ) → a % 2 ≡ 0 → value now a ≡ signal_value now (signal_of a)
value-even now a e = ap (λ r. if r == 1 then not (signal_value now (signal_of a)) else signal_value now (signal_of a)) e

pub value-odd : (now : Instant) (a : ℕ) → a % 2 ≡ 1 → value now a ≡ not (signal_value now (signal_of a))
value-odd now a e = ap (λ r. if r == 1 then not (signal_value now (signal_of a)) else signal_value now (signal_of a)) e

-- a number is even or odd
pub parity : (a : ℕ) → (a % 2 ≡ 0) ⊎ (a % 2 ≡ 1)
parity a = by (a % 2) refl
  where
    by : (r : ℕ) → a % 2 ≡ r → (a % 2 ≡ 0) ⊎ (a % 2 ≡ 1)
    by zero e = inl e
    by (suc zero) e = inr e
    by (suc (suc r)) e = absurd (omega (arith, e))

pub order : (m n : ℕ) → (m ≤ n) ⊎ (n ≤ m)
order zero n = inl (omega arith)
order (suc m) zero = inr (omega arith)
order (suc m) (suc n) = elim (order m n) [ inl p ↦ inl (omega (arith, p)) | inr p ↦ inr (omega (arith, p)) ]

pub are_equal-sym : (x y : Bool) → are_equal x y ≡ are_equal y x
are_equal-sym true true = refl
are_equal-sym true false = refl
are_equal-sym false true = refl
are_equal-sym false false = refl

pub are_equal-not_left : (x y : Bool) → are_equal (not x) y ≡ not (are_equal x y)
are_equal-not_left true true = refl
are_equal-not_left true false = refl
are_equal-not_left false true = refl
are_equal-not_left false false = refl

pub are_equal-not_right : (x y : Bool) → are_equal x (not y) ≡ not (are_equal x y)
are_equal-not_right true true = refl
are_equal-not_right true false = refl
are_equal-not_right false true = refl
are_equal-not_right false false = refl

pub are_equal-not_both : (x y : Bool) → are_equal (not x) (not y) ≡ are_equal x y
are_equal-not_both true true = refl
are_equal-not_both true false = refl
are_equal-not_both false true = refl
are_equal-not_both false false = refl

-- the two signals in order are equal where the signals are
pub ordered_value : (now : Instant) (a b : ℕ) → are_equal (value now (lower a b)) (value now (upper a b)) ≡ are_equal (signal_value now (signal_of a)) (signal_value now (signal_of b))
ordered_value now a b =
    ap (λ x. are_equal x (value now (upper a b))) (value-positive now (min (signal_of a) (signal_of b)))
    ∙ ap (are_equal (signal_value now (min (signal_of a) (signal_of b)))) (value-positive now (max (signal_of a) (signal_of b)))
    ∙ elim (order (signal_of a) (signal_of b)) [
      | inl p ↦
          let least : min (signal_of a) (signal_of b) ≡ signal_of a = omega (arith, p) in
          let most : max (signal_of a) (signal_of b) ≡ signal_of b = omega (arith, p) in
          rw (least, most) refl
      | inr p ↦
          let least : min (signal_of a) (signal_of b) ≡ signal_of b = omega (arith, p) in
          let most : max (signal_of a) (signal_of b) ≡ signal_of a = omega (arith, p) in
          rw (least, most) (are_equal-sym (signal_value now (signal_of b)) (signal_value now (signal_of a)))
    ]

-- literals of one sign are equal where their signals are
pub equal_signs : (now : Instant) (a b : ℕ) → a % 2 ≡ b % 2 → are_equal (value now (lower a b)) (value now (upper a b)) ≡ are_equal (value now a) (value now b)
equal_signs now a b same = ordered_value now a b ∙ elim (parity a) [
  | inl p ↦ sym (ap (λ x. are_equal x (value now b)) (value-even now a p) ∙ ap (are_equal (signal_value now (signal_of a))) (value-even now b (sym same ∙ p)))
  | inr p ↦ sym (ap (λ x. are_equal x (value now b)) (value-odd now a p) ∙ ap (are_equal (not (signal_value now (signal_of a)))) (value-odd now b (sym same ∙ p))
      ∙ are_equal-not_both (signal_value now (signal_of a)) (signal_value now (signal_of b)))
]

-- and literals of two signs where their signals aren't
pub other_signs : (now : Instant) (a b : ℕ) → a % 2 ≢ b % 2 → not (are_equal (value now (lower a b)) (value now (upper a b))) ≡ are_equal (value now a) (value now b)
other_signs now a b differ = ap not (ordered_value now a b) ∙ elim (parity a) [
  | inl p ↦ elim (parity b) [
    | inl q ↦ absurd (differ (p ∙ sym q))
    | inr q ↦ sym (ap (λ x. are_equal x (value now b)) (value-even now a p) ∙ ap (are_equal (signal_value now (signal_of a))) (value-odd now b q)
        ∙ are_equal-not_right (signal_value now (signal_of a)) (signal_value now (signal_of b)))
  ]
  | inr p ↦ elim (parity b) [
    | inl q ↦ sym (ap (λ x. are_equal x (value now b)) (value-odd now a p) ∙ ap (are_equal (not (signal_value now (signal_of a)))) (value-even now b q)
        ∙ are_equal-not_left (signal_value now (signal_of a)) (signal_value now (signal_of b)))
    | inr q ↦ absurd (differ (p ∙ sym q))
  ]
]
