-- The texts of lines, cell by cell and row by row.
use Rattle.std.proofs.Common.{◌≡◌, ℕ, zero, suc, ◌+◌, ◌<◌, ◌≤◌, get_or, ◌⊎◌, inl, inr, ℤ, List, [], ◌∷◌, ◌++◌, map, length, drop, refl, sym, ap, subst, ◌∙◌, arith, append_assoc}
use Rattle.std.specs.List.{AllByRecursion}
use Rattle.std.proofs.lemmas.List.{append-nil}
use Rattle.hll_tree.specs.Printing.{Text}
use Rattle.hll_meaning.specs.Names.{Names}
use Rattle.hll_meaning.specs.Cells.{Cell}
use Rattle.cell_columns.specs.declared.columns.Column.{Column}
use Rattle.cell_columns.specs.Columns.{cell_of}
use Rattle.trace_text.specs.Traces.{cells_text, line_text, lines_text}

no_values : (all : Names) (cs : List Cell) → cells_text all cs [] ≡ []
no_values all [] = refl
no_values all (c ∷ cs) = refl

-- nothing is left where there is no further column or no further value
pub cells_end : (all : Names) (cs : List Column) (xs : List ℤ) (out whole : Text) → (cs ≡ []) ⊎ (xs ≡ []) → out ++ cells_text all (map cell_of cs) xs ≡ whole → out ≡ whole
cells_end all cs xs out whole (inl none) is = sym (append-nil out) ∙ ap (λ (ds : List Column). out ++ cells_text all (map cell_of ds) xs) (sym none) ∙ is
cells_end all cs xs out whole (inr none) is =
    sym (append-nil out) ∙ ap (λ (t : Text). out ++ t) (sym (no_values all (map cell_of cs))) ∙ ap (λ (ys : List ℤ). out ++ cells_text all (map cell_of cs) ys) (sym none) ∙ is

-- ---- rows

module _ {A : Type 0} (row : A → List ℤ) where
  -- the row that is read is the first one left
  row_first : (xs : List A) (i : ℕ) (x : A) → i < length xs → x ≡ get_or xs i x → drop i (map row xs) ≡ row x ∷ drop (i + 1) (map row xs)
  row_first [] i x lt is = absurd (omega (arith, lt))
  row_first (y ∷ xs) zero x lt is = ap (λ (z : A). row z ∷ map row xs) (sym is)
  row_first (y ∷ xs) (suc i) x lt is =
      let next : i + 1 ≡ suc i = omega arith in
      row_first xs i x (omega (arith, lt)) is ∙ ap (λ (k : ℕ). row x ∷ drop k (map row xs)) next ∙ later i
    where
      later : (i : ℕ) → row x ∷ drop (suc i) (map row xs) ≡ row x ∷ drop (suc i + 1) (row y ∷ map row xs)
      later i = let next : suc (suc i) ≡ suc i + 1 = omega arith in ap (λ (k : ℕ). row x ∷ drop k (row y ∷ map row xs)) next

  -- what holds of all rows holds of the one that is read
  pub row_holds : (P : List ℤ → Type 0) (xs : List A) (i : ℕ) (x : A) → i < length xs → x ≡ get_or xs i x → AllByRecursion P (map row xs) → P (row x)
  row_holds P [] i x lt is all = absurd (omega (arith, lt))
  row_holds P (y ∷ xs) zero x lt is all = subst (λ (z : A). P (row z)) (sym is) all.0
  row_holds P (y ∷ xs) (suc i) x lt is all = row_holds P xs i x (omega (arith, lt)) is all.1

  -- one line more
  pub lines_more : (all : Names) (cs : List Cell) (xs : List A) (i : ℕ) (x : A) (out new whole : Text) → i < length xs → x ≡ get_or xs i x →
      out ++ lines_text all cs i (drop i (map row xs)) ≡ whole → new ≡ out ++ line_text all cs i (row x) → new ++ lines_text all cs (i + 1) (drop (i + 1) (map row xs)) ≡ whole
  lines_more all cs xs i x out new whole lt is so_far more =
      ap (λ (t : Text). t ++ lines_text all cs (i + 1) (drop (i + 1) (map row xs))) more
      ∙ append_assoc out (line_text all cs i (row x)) (lines_text all cs (i + 1) (drop (i + 1) (map row xs)))
      ∙ ap (λ (rows : List (List ℤ)). out ++ lines_text all cs i rows) (sym (row_first xs i x lt is))
      ∙ so_far

  -- all lines
  pub lines_end : (all : Names) (cs : List Cell) (xs : List A) (i : ℕ) (out whole : Text) → length xs ≤ i → out ++ lines_text all cs i (drop i (map row xs)) ≡ whole → out ≡ whole
  lines_end all cs xs i out whole le is = sym (append-nil out) ∙ ap (λ (rows : List (List ℤ)). out ++ lines_text all cs i rows) (sym (none xs i le)) ∙ is
    where
      none : (xs : List A) (i : ℕ) → length xs ≤ i → drop i (map row xs) ≡ []
      none [] zero le = refl
      none [] (suc i) le = refl
      none (y ∷ xs) zero le = absurd (omega (arith, le))
      none (y ∷ xs) (suc i) le = none xs i (omega (arith, le))
