-- Counts of cells and first cells, each at most the greatest number.
use Rattle.std.proofs.Common.{◌≡◌, ℕ, ◌+◌, ◌*◌, ◌-◌, ◌^◌, ◌<◌, min, true, false, List, [], ◌∷◌, ◌++◌, length, Some, option_map, refl, sym, ap, ◌∙◌, arith}
use Rattle.std.specs.Str.{bytes_eq}
use Rattle.hll_meaning.specs.declared.ty.FieldTy.{FieldTy}
use Rattle.hll_meaning.specs.Kinds.{Kind, array, Fields, none as no_fields, field, cells, field_ranges, levels, field_levels}
use Rattle.hll_meaning.specs.Types.{kind_of}
use Rattle.hll_meaning.proofs.Scenes.{by_test}
use Rattle.hll_types.specs.declared.measure.Measure.{Measure}
use Rattle.hll_types.specs.Measures.{capped, field_kinds_of}
use Rattle.hll_types.proofs.Measuring.{cells-array, measure_further, measure-array}
use Rattle.cell_layout.specs.Parts.{held}
use Rattle.cell_layout.specs.Steps.{field_from}
use Rattle.cell_layout.proofs.StepsIntoCells.{from_here, from_further}

-- ---- counts

-- the cells of an array
pub array_held : (n : ℕ) (k : Kind) (a : ℕ) → a ≡ capped (cells k) → min (a * n) (2 ^ 64 - 1) ≡ capped (cells (array n k))
array_held n k a p = ap (λ (m : Measure). m.cells) (measure-array n k (record { cells = a; levels = capped (levels k) }) (λ i. record { cells = p i; levels = capped (levels k) }))

-- the cells of one field more
pub field_held : (fields : List FieldTy) (f : FieldTy) (a b : ℕ) → a ≡ capped (length (field_ranges (field_kinds_of fields))) → b ≡ capped (cells (kind_of f.ty)) →
    min (a + b) (2 ^ 64 - 1) ≡ capped (length (field_ranges (field_kinds_of (fields ++ f ∷ []))))
field_held fields f a b p q =
    let before = capped (field_levels (field_kinds_of fields)) in
    let own = capped (levels (kind_of f.ty)) in
    ap (λ (m : Measure). m.cells)
    (measure_further fields f (record { cells = a; levels = before }) (record { cells = b; levels = own }) (λ i. record { cells = p i; levels = before }) (λ i. record { cells = q i; levels = own }))

-- ---- first cells

sum_held : (g s x : ℕ) → min (s + min x g) g ≡ min (s + x) g
sum_held g s x = omega arith

-- the first cell of an element
pub element_held : (start place : ℕ) (k : Kind) (a before first : ℕ) → a ≡ capped (cells k) → before ≡ min (a * place) (2 ^ 64 - 1) → first ≡ min (start + before) (2 ^ 64 - 1) → first ≡ capped (start + place * cells k)
element_held start place k a before first p q r =
    r ∙ ap (λ (x : ℕ). min (start + x) (2 ^ 64 - 1)) (q ∙ array_held place k a p ∙ ap capped (cells-array place k)) ∙ sum_held (2 ^ 64 - 1) start (place * cells k)

-- a first cell that is below the greatest number, and one that is held
below_held : (g n : ℕ) → n < g → min n (g - 1) ≡ n
below_held g n h = omega arith

pub small_held : (n : ℕ) → n < 2 ^ 64 → capped n ≡ n
small_held n h = below_held (2 ^ 64) n h

further_held : (g a b c : ℕ) → min a g ≡ min b g → min (a + c) g ≡ min (b + c) g
further_held g a b c h = omega arith

-- where fields begin goes by what is held of the first cell
pub fields_alike : (fields : Fields) (a b : ℕ) (sought : List ℕ) → capped a ≡ capped b → option_map held (field_from a fields sought) ≡ option_map held (field_from b fields sought)
fields_alike no_fields a b sought h = refl
fields_alike (field own k fields) a b sought h =
    by_test (bytes_eq own sought)
    (λ same.
    ap (option_map held) (from_here a own k fields sought same)
    ∙ (λ i. Some (record { start = h i; kind = k }))
    ∙ ap (option_map held) (sym (from_here b own k fields sought same)))
    (λ other.
    ap (option_map held) (from_further a own k fields sought other)
    ∙ fields_alike fields (a + cells k) (b + cells k) sought (further_held (2 ^ 64 - 1) a b (cells k) h)
    ∙ ap (option_map held) (sym (from_further b own k fields sought other)))

next_held : (g a x : ℕ) → min (min (a + min x g) g) g ≡ min (a + x) g
next_held g a x = omega arith

-- one field further
pub field_passed : (own : List ℕ) (k : Kind) (fields : Fields) (a b next : ℕ) (sought : List ℕ) → bytes_eq own sought ≡ false → b ≡ capped (cells k) → next ≡ min (a + b) (2 ^ 64 - 1) →
    option_map held (field_from next fields sought) ≡ option_map held (field_from a (field own k fields) sought)
field_passed own k fields a b next sought other p q =
    let same : capped next ≡ capped (a + cells k) =
    ap capped (q ∙ ap (λ (x : ℕ). min (a + x) (2 ^ 64 - 1)) p) ∙ next_held (2 ^ 64 - 1) a (cells k) in
    fields_alike fields next (a + cells k) sought same ∙ ap (option_map held) (sym (from_further a own k fields sought other))

-- the field itself
pub field_met : (own : List ℕ) (k : Kind) (fields : Fields) (a : ℕ) (sought : List ℕ) → bytes_eq own sought ≡ true → a < 2 ^ 64 → Some (record { start = a; kind = k }) ≡ option_map held (field_from a (field own k fields) sought)
field_met own k fields a sought same small =
    let own_start : a ≡ capped a = sym (small_held a small) in
    (λ i. Some (record { start = own_start i; kind = k })) ∙ ap (option_map held) (sym (from_here a own k fields sought same))
