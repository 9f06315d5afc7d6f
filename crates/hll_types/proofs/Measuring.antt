-- Cells and levels of kinds, part by part, as far as a number holds them.
use Rattle.std.proofs.Common.{◌≡◌, ℕ, zero, suc, ◌+◌, ◌*◌, ◌-◌, ◌^◌, ◌<◌, ◌≤◌, ◌⊎◌, inl, inr, max, min, List, [], ◌∷◌, ◌++◌, length, sym, ap, ◌∙◌, arith, length-append}
use Rattle.std.proofs.Math.Nat.{min-eq_left}
use Rattle.std.proofs.lemmas.Bool.{cases_lt}
use Rattle.hll_meaning.specs.declared.ty.FieldTy.{FieldTy}
use Rattle.hll_meaning.specs.Kinds.{Kind, array, struct, Fields, ranges, cells, levels, field_ranges, field_levels}
use Rattle.hll_meaning.specs.Types.{kind_of}
use Rattle.hll_meaning.proofs.AreIn.{copies, copies_more, copies_none, repeated_copies}
use Rattle.hll_types.specs.declared.measure.Measure.{Measure}
use Rattle.hll_types.specs.Measures.{capped, kind_measure, field_kinds_of, fields_measure}

-- ---- as far as a number goes

pub sum_within : (g a b : ℕ) → min (min a g + min b g) g ≡ min (a + b) g
sum_within g a b = omega arith

pub greater_within : (g a b : ℕ) → max (min a g) (min b g) ≡ min (max a b) g
greater_within g a b = omega arith

product_within : (g a n : ℕ) → min (min a g * n) g ≡ min (n * a) g
product_within g a zero = omega arith
product_within g a (suc n) = either (cases_lt g a)
  where
    small : a ≤ g → min (min a g * suc n) g ≡ min (suc n * a) g
    small le = let same : a * suc n ≡ suc n * a = omega arith in ap (λ x. min (x * suc n) g) (min-eq_left le) ∙ ap (λ x. min x g) same

    great : g < a → min (min a g * suc n) g ≡ min (suc n * a) g
    great lt =
        let all : min a g ≡ g = omega arith in
        let left : min (g * suc n) g ≡ g = omega arith in
        let right : min (suc n * a) g ≡ g = omega arith in
        ap (λ x. min (x * suc n) g) all ∙ left ∙ sym right

    either : (g < a) ⊎ (a ≤ g) → min (min a g * suc n) g ≡ min (suc n * a) g
    either (inl lt) = great lt
    either (inr le) = small le

-- ---- parts

length-copies : {A : Type 0} (n : ℕ) (xs : List A) → length (copies n xs) ≡ n * length xs
length-copies zero xs = ap length (copies_none xs) ∙ omega arith
length-copies (suc n) xs = ap length (copies_more n xs) ∙ omega (arith, length-append xs (copies n xs), length-copies n xs)

-- an array has the cells of its elements
pub cells-array : (n : ℕ) (k : Kind) → cells (array n k) ≡ n * cells k
cells-array n k = ap length (repeated_copies n (ranges k)) ∙ length-copies n (ranges k)

-- one field further
cells_further : (fields : List FieldTy) (f : FieldTy) → length (field_ranges (field_kinds_of (fields ++ f ∷ []))) ≡ length (field_ranges (field_kinds_of fields)) + cells (kind_of f.ty)
cells_further [] f = omega (arith, length-append (ranges (kind_of f.ty)) [])
cells_further (e ∷ fields) f =
    omega (arith, length-append (ranges (kind_of e.ty)) (field_ranges (field_kinds_of (fields ++ f ∷ []))), length-append (ranges (kind_of e.ty)) (field_ranges (field_kinds_of fields)), cells_further fields f)

levels_further : (fields : List FieldTy) (f : FieldTy) → field_levels (field_kinds_of (fields ++ f ∷ [])) ≡ max (field_levels (field_kinds_of fields)) (levels (kind_of f.ty))
levels_further [] f = omega arith
levels_further (e ∷ fields) f = omega (arith, levels_further fields f)

-- ---- measures

pub measure_further : (fields : List FieldTy) (f : FieldTy) (a b : Measure) → a ≡ fields_measure (field_kinds_of fields) → b ≡ kind_measure (kind_of f.ty) →
    let joined : Measure = record { cells = min (a.cells + b.cells) (2 ^ 64 - 1); levels = max a.levels b.levels } in joined ≡ fields_measure (field_kinds_of (fields ++ f ∷ []))
measure_further fields f a b p q =
    let few = ap (λ (m : Measure). min (m.cells + b.cells) (2 ^ 64 - 1)) p ∙ ap (λ (m : Measure). min (capped (length (field_ranges (field_kinds_of fields))) + m.cells) (2 ^ 64 - 1)) q
    ∙ sum_within (2 ^ 64 - 1) (length (field_ranges (field_kinds_of fields))) (cells (kind_of f.ty)) ∙ ap capped (sym (cells_further fields f)) in
    let deep = ap (λ (m : Measure). max m.levels b.levels) p ∙ ap (λ (m : Measure). max (capped (field_levels (field_kinds_of fields))) m.levels) q
    ∙ greater_within (2 ^ 64 - 1) (field_levels (field_kinds_of fields)) (levels (kind_of f.ty)) ∙ ap capped (sym (levels_further fields f)) in
    λ i. record { cells = few i; levels = deep i }

pub measure-array : (n : ℕ) (k : Kind) (m : Measure) → m ≡ kind_measure k →
    let all : Measure = record { cells = min (m.cells * n) (2 ^ 64 - 1); levels = min (m.levels + 1) (2 ^ 64 - 1) } in all ≡ kind_measure (array n k)
measure-array n k m p =
    let few = ap (λ (m : Measure). min (m.cells * n) (2 ^ 64 - 1)) p ∙ product_within (2 ^ 64 - 1) (cells k) n ∙ ap capped (sym (cells-array n k)) in
    let deep = ap (λ (m : Measure). min (m.levels + 1) (2 ^ 64 - 1)) p ∙ one_more (2 ^ 64 - 1) (levels k) in
    λ i. record { cells = few i; levels = deep i }
  where
    one_more : (g l : ℕ) → min (min l g + 1) g ≡ min (1 + l) g
    one_more g l = omega arith

pub measure-struct : (name : List ℕ) (fields : Fields) (m : Measure) → m ≡ fields_measure fields →
    let all : Measure = record { cells = m.cells; levels = min (m.levels + 1) (2 ^ 64 - 1) } in all ≡ kind_measure (struct name fields)
measure-struct name fields m p =
    let few = ap (λ (m : Measure). m.cells) p in
    let deep = ap (λ (m : Measure). min (m.levels + 1) (2 ^ 64 - 1)) p ∙ one_more (2 ^ 64 - 1) (field_levels fields) in
    λ i. record { cells = few i; levels = deep i }
  where
    one_more : (g l : ℕ) → min (min l g + 1) g ≡ min (1 + l) g
    one_more g l = omega arith
