-- Values of variables by their position, and the rows of a table by their number.
use Rattle.std.proofs.Common.{◌≡◌, ℕ, zero, suc, ◌<◌, ◌≤◌, ◌+◌, ◌^◌, ◌%◌, ◌/◌, eqb, List, [], ◌∷◌, ◌++◌, length, get_or, take, Bool, true, false, refl, arith, ap, sym, ◌∙◌, Contains}
use Rattle.std.specs.Str.{bytes_eq}
use Rattle.std.proofs.lemmas.Slice.Eq.{bytes_eq-Decides}
use Rattle.std.proofs.lemmas.List.{get_or_default, take_more, take_all}
use Rattle.std.proofs.Math.Nat.{div-one, div-div-eq-div-mul, pow-succ'}
use Rattle.hll_cli.specs.Table.{value_at, row}

-- the variable at the first position of its name has the value at that position
pub value_at-first : (ns : List (List ℕ)) (values : List Bool) (name : List ℕ) (i : ℕ) → i < length ns →
    ((k : ℕ) → k < i → bytes_eq (get_or ns k []) name ≡ false) → bytes_eq (get_or ns i []) name ≡ true → length values ≡ length ns →
    value_at ns values name ≡ get_or values i false
value_at-first [] values name i within others here long = absurd (omega arith)
value_at-first (n ∷ ns) [] name i within others here long = absurd (omega arith)
value_at-first (n ∷ ns) (x ∷ xs) name zero within others here long = rw here refl
value_at-first (n ∷ ns) (x ∷ xs) name (suc i) within others here long =
    let first : bytes_eq n name ≡ false = others 0 (omega arith) in
    rw first (value_at-first ns xs name i (omega arith) (λ k h. others (suc k) (omega arith)) here (omega arith))

-- a name that no position has is no element
pub not_contained : (ns : List (List ℕ)) (name : List ℕ) → ((k : ℕ) → k < length ns → bytes_eq (get_or ns k []) name ≡ false) → Contains ns name → ⊥
not_contained ns name others there =
    let e : get_or ns there.0 [] ≡ name = get_or_default ns there.0 [] name there.1 ∙ there.2 in
    let same : bytes_eq (get_or ns there.0 []) name ≡ true = (bytes_eq-Decides (get_or ns there.0 []) name).1 e in
    let other = others there.0 there.1 in cc

-- the bit of a number at a position is the value there in the row of the number
pub row-at : (n k i : ℕ) → i < n → get_or (row n k) i false ≡ eqb ((k / 2 ^ i) % 2) 1
row-at zero k i h = absurd (omega arith)
row-at (suc n) k zero h = ap (λ j. eqb (j % 2) 1) (sym (div-one k))
row-at (suc n) k (suc i) h =
    row-at n (k / 2) i (omega arith) ∙ ap (λ j. eqb (j % 2) 1) (div-div-eq-div-mul k 2 (2 ^ i) ∙ ap (λ p. k / p) (sym (pow-succ' 2 i)))

-- a row has a value for each input
pub length-row : (n k : ℕ) → length (row n k) ≡ n
length-row zero k = refl
length-row (suc n) k = ap suc (length-row n (k / 2))

-- the front of a row goes on with the next bit of its number
pub row_push : (n k i : ℕ) (xs ys : List Bool) → i < n → xs ≡ take i (row n k) → ys ≡ xs ++ eqb ((k / 2 ^ i) % 2) 1 ∷ [] → ys ≡ take (i + 1) (row n k)
row_push n k i xs ys within front pushed =
    let long = length-row n k in
    pushed ∙ ap (λ zs. zs ++ eqb ((k / 2 ^ i) % 2) 1 ∷ []) front
    ∙ ap (λ b. take i (row n k) ++ b ∷ []) (sym (row-at n k i within))
    ∙ sym (take_more (row n k) i false (omega arith))

-- the whole front of a row is the row
pub row_whole : (n k i : ℕ) (xs : List Bool) → n ≤ i → xs ≡ take i (row n k) → xs ≡ row n k
row_whole n k i xs past front =
    let long = length-row n k in
    front ∙ take_all _ _ (omega arith)
