-- Large types, by measures that go as far as a number does.
use Rattle.std.proofs.Common.{◌≡◌, ℕ, ◌+◌, ◌-◌, ◌^◌, ◌<◌, ◌≤◌, ◌⊎◌, inl, inr, nat_lt, Bool, true, false, ◌||◌, min, max, [], length, sym, ap, ◌∙◌, arith, lit<}
use Rattle.std.proofs.Math.Nat.{min-eq_left}
use Rattle.std.proofs.lemmas.Bool.{cases_lt, lt-ltb, le-ltb, ltb-false}
use Rattle.hll_meaning.specs.Kinds.{Kind, struct, Fields, cells, levels, field_ranges, field_levels}
use Rattle.hll_meaning.specs.StaticRules.{is_large}
use Rattle.hll_meaning.proofs.Faultless.{neither}
use Rattle.hll_types.specs.declared.measure.Measure.{Measure}
use Rattle.hll_types.specs.Measures.{kind_measure, fields_measure}

-- whether a measure is large
abbrev pub is_large_measure : Measure → Bool
is_large_measure m = nat_lt 100000 m.cells || nat_lt 200 m.levels

lt_within : (m g c : ℕ) → m < g → nat_lt m (min c g) ≡ nat_lt m c
lt_within m g c small = either (cases_lt g c)
  where
    either : (g < c) ⊎ (c ≤ g) → nat_lt m (min c g) ≡ nat_lt m c
    either (inl more) =
        let whole : min c g ≡ g = omega arith in
        ap (nat_lt m) whole ∙ lt-ltb m g small ∙ sym (lt-ltb m c (omega arith))
    either (inr less) = ap (nat_lt m) (min-eq_left less)

-- a kind is large where its measure is
pub large_measure : (k : Kind) (m : Measure) → m ≡ kind_measure k → is_large_measure m ≡ is_large k
large_measure k m is =
    ap is_large_measure is ∙ (λ i. lt_within 100000 (2 ^ 64 - 1) (cells k) (lit< tt) i || lt_within 200 (2 ^ 64 - 1) (levels k) (lit< tt) i)

-- a total with so many more cells
pub total_measure : (total : ℕ) (k : Kind) (m : Measure) → m ≡ kind_measure k → nat_lt 100000 (min (total + m.cells) (2 ^ 64 - 1)) ≡ nat_lt 100000 (total + cells k)
total_measure total k m is = lt_within 100000 (2 ^ 64 - 1) (total + m.cells) (lit< tt) ∙ ap (λ (m : Measure). nat_lt 100000 (total + m.cells)) is ∙ more (2 ^ 64 - 1) total (cells k) (lit< tt)
  where
    more : (g a b : ℕ) → 100000 < g → nat_lt 100000 (a + min b g) ≡ nat_lt 100000 (a + b)
    more g a b small = either (cases_lt g b)
      where
        either : (g < b) ⊎ (b ≤ g) → nat_lt 100000 (a + min b g) ≡ nat_lt 100000 (a + b)
        either (inl over) = lt-ltb 100000 (a + min b g) (omega arith) ∙ sym (lt-ltb 100000 (a + b) (omega arith))
        either (inr less) = ap (λ n. nat_lt 100000 (a + n)) (min-eq_left less)

-- where the total isn't too great it is exact
pub total_exact : (total : ℕ) (k : Kind) (m : Measure) → m ≡ kind_measure k → nat_lt 100000 (min (total + m.cells) (2 ^ 64 - 1)) ≡ false → min (total + m.cells) (2 ^ 64 - 1) ≡ total + cells k
total_exact total k m is small =
    ap (λ (m : Measure). min (total + m.cells) (2 ^ 64 - 1)) is
    ∙ exact (2 ^ 64 - 1) total (cells k) (lit< tt) (ltb-false 100000 (min (total + min (cells k) (2 ^ 64 - 1)) (2 ^ 64 - 1)) (sym (ap (λ (m : Measure). nat_lt 100000 (min (total + m.cells) (2 ^ 64 - 1))) is) ∙ small))
  where
    exact : (g a b : ℕ) → 100000 < g → min (a + min b g) g ≤ 100000 → min (a + min b g) g ≡ a + b
    exact g a b large low = omega arith

-- the fields of a struct that isn't large aren't
pub fields_small : (fields : Fields) (m : Measure) → m ≡ fields_measure fields → is_large (struct [] fields) ≡ false → is_large_measure m ≡ false
fields_small fields m is small =
    let parts = neither (nat_lt 100000 (cells (struct [] fields))) (nat_lt 200 (levels (struct [] fields))) small in
    let few = lt_within 100000 (2 ^ 64 - 1) (length (field_ranges fields)) (lit< tt) ∙ parts.0 in
    let low : field_levels fields ≤ 200 = omega (arith, ltb-false 200 (1 + field_levels fields) parts.1) in
    let deep = lt_within 200 (2 ^ 64 - 1) (field_levels fields) (lit< tt) ∙ le-ltb 200 (field_levels fields) low in
    ap is_large_measure is ∙ (λ i. few i || deep i)

-- a measure of less isn't large where that of more isn't
pub measure_less : (a b : Measure) → is_large_measure (record { cells = min (a.cells + b.cells) (2 ^ 64 - 1); levels = max a.levels b.levels }) ≡ false → a.cells ≤ 2 ^ 64 - 1 → is_large_measure a ≡ false
measure_less a b small fits =
    let parts = neither (nat_lt 100000 (min (a.cells + b.cells) (2 ^ 64 - 1))) (nat_lt 200 (max a.levels b.levels)) small in
    let few = le-ltb 100000 a.cells (less (2 ^ 64 - 1) a.cells b.cells (ltb-false 100000 (min (a.cells + b.cells) (2 ^ 64 - 1)) parts.0) fits) in
    let deep = le-ltb 200 a.levels (omega (arith, ltb-false 200 (max a.levels b.levels) parts.1)) in
    (λ i. few i || deep i)
  where
    less : (g x y : ℕ) → min (x + y) g ≤ 100000 → x ≤ g → x ≤ 100000
    less g x y low within = omega arith

-- a test behind another, as the code has it
pub both_tests : (b l t large many : Bool) → l ≡ large → t ≡ many → ((l ≡ true) × (b ≡ true)) ⊎ ((l ≡ false) × (b ≡ t)) → b ≡ (large || many)
both_tests b l t large many p q (inl h) = h.1 ∙ ap (λ x. x || many) (sym h.0 ∙ p)
both_tests b l t large many p q (inr h) = h.1 ∙ q ∙ ap (λ x. x || many) (sym h.0 ∙ p)
