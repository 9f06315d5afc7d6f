-- Reading one of several rows.
use Rattle.std.proofs.Common.{◌≡◌, ℕ, zero, suc, ◌+◌, ◌*◌, ◌-◌, ◌<◌, ◌≤◌, Bool, true, false, cond, List, [], ◌∷◌, length, get_or, ⊎_elim, refl, sym, ap, ◌∙◌, arith, ℤ, pos, unsigned_abs}
use Rattle.std.specs.List.{AllByRecursion}
use Rattle.std.proofs.lemmas.Int.{ints}
use Rattle.std.proofs.lemmas.List.{get_or_past}
use Rattle.std.proofs.lemmas.Bool.{cases_lt, false_from_ne_true}
use Rattle.expand_api.specs.Digits.Values.{digit, natural, signed, digits}
use Rattle.expand_api.specs.Digits.Comparisons.{equal}
use Rattle.expand_api.specs.Digits.Readings.{read_by_equalities, halved, read_by_tree, ReadsRows, ReadsSigned}
use Rattle.expand_api.proofs.ValueLemmas.{natural_below, IsNotNegative, IsNegative, signs, sign_tells}
use Rattle.expand_api.proofs.SpellingLemmas.{natural_spelled, digits_natural}
use Rattle.expand_api.proofs.ChoiceLemmas.{choice_at, choice_length}
use Rattle.expand_api.proofs.ComparisonLemmas.{equal_from, same_equal}

-- all rows have the length of other
abbrev HasWidth : List Bool → List (List Bool) → Type 0
HasWidth other rows = AllByRecursion (λ r. length r ≡ length other) rows

-- ---- by equalities
equalities_length : (k : ℕ) (index : List Bool) (rows : List (List Bool)) (other : List Bool) → HasWidth other rows → length (read_by_equalities k index rows other) ≡ length other
equalities_length k index [] other h = refl
equalities_length k index (r ∷ rs) other h =
    let rest = equalities_length (k + 1) index rs other h.1 in
    choice_length (equal index (digits (length index) k)) r (read_by_equalities (k + 1) index rs other) (h.0 ∙ sym rest) ∙ h.0

is_number : (index : List Bool) (k : ℕ) → k ≡ natural index → equal index (digits (length index) k) ≡ true
is_number index k e = equal_from index (digits (length index) k) (sym (digits_natural index) ∙ ap (digits (length index)) (sym e))

is_other_number : (index : List Bool) (k : ℕ) → k < natural index → equal index (digits (length index) k) ≡ false
is_other_number index k h =
    false_from_ne_true (equal index (digits (length index) k))
    (λ t. let e = ap natural (same_equal index (digits (length index) k) t) ∙ natural_spelled (length index) k (omega (arith, natural_below index)) in omega arith)

later : (r : List Bool) (rs : List (List Bool)) (other : List Bool) (i k : ℕ) → k < i → get_or rs (i - (k + 1)) other ≡ get_or (r ∷ rs) (i - k) other
later r rs other i k h =
    let e : i - k ≡ suc (i - (k + 1)) = omega arith in
    ap (λ j. get_or (r ∷ rs) j other) (sym e)

now_read : (r : List Bool) (rs : List (List Bool)) (other : List Bool) (i k : ℕ) → k ≡ i → r ≡ get_or (r ∷ rs) (i - k) other
now_read r rs other i k e =
    let z : 0 ≡ i - k = omega arith in
    ap (λ j. get_or (r ∷ rs) j other) z

pub reads_by_equalities : (k : ℕ) (index : List Bool) (rows : List (List Bool)) (other : List Bool) → HasWidth other rows → k ≤ natural index → read_by_equalities k index rows other ≡ get_or rows (natural index - k) other
reads_by_equalities k index [] other h low = refl
reads_by_equalities k index (r ∷ rs) other h low =
    let rest = read_by_equalities (k + 1) index rs other in
    let l = h.0 ∙ sym (equalities_length (k + 1) index rs other h.1) in
    ⊎_elim
    (λ less. choice_at (equal index (digits (length index) k)) false r rest (is_other_number index k less) l
    ∙ reads_by_equalities (k + 1) index rs other h.1 (omega arith)
    ∙ later r rs other (natural index) k less)
    (λ same. choice_at (equal index (digits (length index) k)) true r rest (is_number index k (omega arith)) l
    ∙ now_read r rs other (natural index) k (omega arith))
    (cases_lt k (natural index))

-- ---- by a tree
halved_width : (x : Bool) (rows : List (List Bool)) (other : List Bool) → HasWidth other rows → HasWidth other (halved x rows other)
halved_width x [] other h = h
halved_width x (r ∷ []) other h = (choice_length x other r (sym h.0), h.1)
halved_width x (r ∷ s ∷ rs) other h = (choice_length x s r (h.1.0 ∙ sym h.0) ∙ h.1.0, halved_width x rs other h.1.1)

one_of : (x : Bool) (r s : List Bool) (rs : List (List Bool)) (other : List Bool) → cond x s r ≡ get_or (r ∷ s ∷ rs) (digit x + 2 * 0) other
one_of true r s rs other = refl
one_of false r s rs other = refl

last_of : (x : Bool) (r : List Bool) (other : List Bool) → cond x other r ≡ get_or (r ∷ []) (digit x + 2 * 0) other
last_of true r other = refl
last_of false r other = refl

past_last : (x : Bool) (r : List Bool) (i : ℕ) (other : List Bool) → other ≡ get_or (r ∷ []) (digit x + 2 * suc i) other
past_last x r i other =
    let e : suc (digit x + 2 * i + 1) ≡ digit x + 2 * suc i = omega arith in
    ap (λ j. get_or (r ∷ []) j other) e

two_on : (x : Bool) (r s : List Bool) (rs : List (List Bool)) (i : ℕ) (other : List Bool) → get_or rs (digit x + 2 * i) other ≡ get_or (r ∷ s ∷ rs) (digit x + 2 * suc i) other
two_on x r s rs i other =
    let e : suc (suc (digit x + 2 * i)) ≡ digit x + 2 * suc i = omega arith in
    ap (λ j. get_or (r ∷ s ∷ rs) j other) e

-- the half has the rows whose numbers have x as their lowest digit
halved_row : (x : Bool) (rows : List (List Bool)) (other : List Bool) (i : ℕ) → HasWidth other rows → get_or (halved x rows other) i other ≡ get_or rows (digit x + 2 * i) other
halved_row x [] other i h = refl
halved_row x (r ∷ []) other zero h = choice_at x x other r refl (sym h.0) ∙ last_of x r other
halved_row x (r ∷ []) other (suc i) h = past_last x r i other
halved_row x (r ∷ s ∷ rs) other zero h = choice_at x x s r refl (h.1.0 ∙ sym h.0) ∙ one_of x r s rs other
halved_row x (r ∷ s ∷ rs) other (suc i) h = halved_row x rs other i h.1.1 ∙ two_on x r s rs i other

pub reads_by_tree : (index : List Bool) (rows : List (List Bool)) (other : List Bool) → HasWidth other rows → read_by_tree index rows other ≡ get_or rows (natural index) other
reads_by_tree [] [] other h = refl
reads_by_tree [] (r ∷ rs) other h = refl
reads_by_tree (x ∷ xs) rows other h = reads_by_tree xs (halved x rows other) other (halved_width x rows other h) ∙ halved_row x rows other (natural xs) h

pub reads_rows : (index : List Bool) (rows : List (List Bool)) (other : List Bool) → ReadsRows index rows other
reads_rows index rows other h = record {
  by_equalities = reads_by_equalities 0 index rows other h (omega arith) ∙ ap (λ j. get_or rows j other) (omega arith);
  by_tree = reads_by_tree index rows other h;
}

-- ---- an index in two's complement
size_of : (m : ℕ) (v : ℤ) → v ≡ pos m → m ≡ unsigned_abs v
size_of m v e = omega (arith, ints)

pub reads_signed : (index : List Bool) (rows : List (List Bool)) (other : List Bool) → ReadsSigned index rows other
reads_signed index rows other h =
    let read = λ (b : Bool). cond b other (get_or rows (unsigned_abs (signed index)) other) in
    ⊎_elim
    (λ (c : IsNotNegative index). ap (λ k. get_or rows k other) (size_of (natural index) (signed index) c.value) ∙ ap read (sym c.sign_digit ∙ sign_tells index))
    (λ (c : IsNegative index). get_or_past rows (natural index) other (omega (arith, c.high, h)) ∙ ap read (sym c.sign_digit ∙ sign_tells index))
    (signs index)
