-- Rows whose cells are set one after the other, in an order: how a further cell and a further row are set, and that such rows make a run.
use Rattle.std.proofs.Common.{◌≡◌, ℕ, zero, suc, ◌+◌, ◌<◌, ◌≤◌, ◌⊎◌, inl, inr, List, [], ◌∷◌, ◌++◌, length, take, sym, ap, subst, ◌∙◌, arith}
use Rattle.std.specs.Prelude.{◌≢◌, AllPairs}
use Rattle.std.specs.List.{AllByRecursion, Contains, slice_index, slice_index_or}
use Rattle.std.proofs.lemmas.Bool.{cases_lt}
use Rattle.std.proofs.lemmas.List.{get_or_append_left, get_or_push, get_or-take, length_push, length-map, length-take-le, take_at, take-append-le}
use Rattle.graphs.proofs.Lists.{place_in_take, same_place}
use Rattle.hll_tree.specs.declared.tree.HllModel.{HllModel}
use Rattle.hll_tree.proofs.Gives.{all_append}
use Rattle.hll_meaning.specs.Runs.{IsRun, variables}
use Rattle.hll_meaning.specs.StaticRules.{Well}
use Rattle.hll_meaning.specs.Texts.{HasText}
use Rattle.dependence.specs.Causality.{IsCellOrder}
use Rattle.dependence.specs.CellRuns.{IsCellGiven, IsSet, AreSet}
use Rattle.dependence.specs.Rows.{Row, IsRow, history_of, instant_of, number_at}
use Rattle.dependence.proofs.GivenNumbers.{cells_make_runs, runs_by_cells}
use Rattle.dependence.proofs.Numbers.{number_of}
use Rattle.dependence.proofs.PlacesOfValues.{flat_rows}
use Rattle.dependence.proofs.RowNumbers.{history_at, rows_of_kinds}
use Rattle.dependence.proofs.Setting.{all_of}

-- ---- a row

-- In a row behind others the cell at a place of an order has the number that its definitions give it over some row that has the same
-- numbers of the cells in front of the place.
pub record IsSetIn (m : HllModel) (order : List ℕ) (rows : List Row) (row : Row) (place : ℕ) : Type 0 where
  pub over : Row
  pub is_row : IsRow m over
  pub agrees : (c : ℕ) → Contains (take place order) c → number_of over c ≡ number_of row c
  pub given : IsCellGiven m (history_of m (rows ++ over ∷ [])) (length rows) (slice_index order place) (number_of row (slice_index order place))

-- so many cells of an order are set
abbrev pub AreSetIn : HllModel → List ℕ → List Row → Row → ℕ → Type 0
AreSetIn m order rows row count = (place : ℕ) → place < count → IsSetIn m order rows row place

-- Another row differs from one in the cell at a place of the order at most, and there it has the number that the definitions give over
-- the first row.
pub record IsSetAfter (m : HllModel) (order : List ℕ) (rows : List Row) (before after : Row) (place : ℕ) : Type 0 where
  pub others : (c : ℕ) → c ≢ slice_index order place → number_of after c ≡ number_of before c
  pub given : IsCellGiven m (history_of m (rows ++ before ∷ [])) (length rows) (slice_index order place) (number_of after (slice_index order place))

pub none_set : (m : HllModel) (order : List ℕ) (rows : List Row) (row : Row) → AreSetIn m order rows row 0
none_set m order rows row place below = absurd (omega (arith, below))

-- what stands in front of a place of an order is another cell
differs : (order : List ℕ) → AllPairs (λ a b. a ≢ b) order → (q place c : ℕ) → q ≤ place → place < length order → Contains (take q order) c → c ≢ slice_index order place
differs order once q place c low within there same =
    let at = place_in_take q order c (omega (arith, low, within)) there in
    let below : at.0 < q = at.1 in
    let is : at.0 ≡ place = same_place order at.0 place once (omega arith) within (at.2 ∙ same) in
    omega (arith, is, below, low)

-- a further cell is set
pub one_more_set : (m : HllModel) (order : List ℕ) → IsCellOrder m order → (rows : List Row) (before after : Row) (place : ℕ) → place < length order → IsRow m before → IsSetAfter m order rows before after place →
    AreSetIn m order rows before place → AreSetIn m order rows after (place + 1)
one_more_set m order is_order rows before after place within is_row next set q below = by (cases_lt q place)
  where
    by : (q < place) ⊎ (place ≤ q) → IsSetIn m order rows after q
    by (inl earlier) =
        let s = set q earlier in
        let own = next.others (slice_index order q) (λ same. differ earlier same) in
        record {
          over = s.over;
          is_row = s.is_row;
          agrees = λ c there. s.agrees c there ∙ sym (next.others c (differs order is_order.once q place c (omega (arith, earlier)) within there));
          given = subst (IsCellGiven m (history_of m (rows ++ s.over ∷ [])) (length rows) (slice_index order q)) (sym own) s.given;
        }
      where
        differ : q < place → slice_index order q ≡ slice_index order place → ⊥
        differ earlier same = let is : q ≡ place = same_place order q place is_order.once (omega (arith, earlier, within)) within same in omega (arith, earlier, is)
    by (inr late) =
        let is : place ≡ q = omega (arith, late, below) in
        subst (IsSetIn m order rows after) is (record {
          over = before;
          is_row = is_row;
          agrees = λ c there. sym (next.others c (differs order is_order.once place place c (omega arith) within there));
          given = next.given;
        })

-- ---- rows

-- in each row all cells are set
pub record AreSetRows (m : HllModel) (order : List ℕ) (rows : List Row) : Type 0 where
  pub are_rows : AllByRecursion (IsRow m) rows
  pub set : (t : ℕ) → t < length rows → AreSetIn m order (take t rows) (slice_index_or rows t []) (length order)

pub no_rows : (m : HllModel) (order : List ℕ) → AreSetRows m order []
no_rows m order = record { are_rows = tt; set = λ t below. absurd (omega (arith, below)) }

-- a further row
pub one_more_row : (m : HllModel) (order : List ℕ) (rows : List Row) (row : Row) → AreSetRows m order rows → IsRow m row → AreSetIn m order rows row (length order) → AreSetRows m order (rows ++ row ∷ [])
one_more_row m order rows row all is_row set = record {
  are_rows = all_append (IsRow m) rows (row ∷ []) all.are_rows (is_row, tt);
  set = λ t below. by t below (cases_lt t (length rows));
}
  where
    by : (t : ℕ) → t < length (rows ++ row ∷ []) → (t < length rows) ⊎ (length rows ≤ t) → AreSetIn m order (take t (rows ++ row ∷ [])) (slice_index_or (rows ++ row ∷ []) t []) (length order)
    by t below (inl earlier) =
        subst (λ (front : List Row). AreSetIn m order front (slice_index_or (rows ++ row ∷ []) t []) (length order)) (sym (take-append-le t rows (row ∷ []) (omega (arith, earlier))))
        (subst (λ (r : Row). AreSetIn m order (take t rows) r (length order)) (sym (get_or_append_left rows (row ∷ []) [] t earlier)) (all.set t earlier))
    by t below (inr late) =
        let last : length rows ≡ t = omega (arith, late, below, length_push rows row) in
        subst (λ (front : List Row). AreSetIn m order front (slice_index_or (rows ++ row ∷ []) t []) (length order)) (sym (take_at rows (row ∷ []) t last))
        (subst (λ (r : Row). AreSetIn m order rows r (length order)) (sym (get_or_push rows row [] t last)) set)

-- ---- histories

taken : {A : Type 0} (P : A → Type 0) (n : ℕ) (xs : List A) → AllByRecursion P xs → AllByRecursion P (take n xs)
taken P zero xs all = tt
taken P (suc n) [] all = tt
taken P (suc n) (x ∷ xs) all = (all.0, taken P n xs all.1)

module _ (m : HllModel) (order : List ℕ) (rows : List Row) (all : AreSetRows m order rows) (t place : ℕ) (within : t < length rows) (s : IsSetIn m order (take t rows) (slice_index_or rows t []) place) where
  many : length (take t rows) ≡ t
  many = length-take-le t rows (omega (arith, within))

  front : AllByRecursion (IsRow m) (take t rows ++ s.over ∷ [])
  front = all_append (IsRow m) (take t rows) (s.over ∷ []) (taken (IsRow m) t rows all.are_rows) (s.is_row, tt)

  long : length (take t rows ++ s.over ∷ []) ≡ t + 1
  long = omega (arith, many, length_push (take t rows) s.over)

  -- an instant before is the same
  same_before : (u : ℕ) → u < t → slice_index_or (history_of m (take t rows ++ s.over ∷ [])) u [] ≡ slice_index_or (history_of m rows) u []
  same_before u less =
      let row : slice_index_or (take t rows ++ s.over ∷ []) u [] ≡ slice_index_or rows u [] = get_or_append_left (take t rows) (s.over ∷ []) [] u (omega (arith, many, less)) ∙ get_or-take t rows u [] less in
      history_at m (take t rows ++ s.over ∷ []) u (omega (arith, long, less)) ∙ ap (instant_of (variables m)) row ∙ sym (history_at m rows u (omega (arith, less, within)))

  number_over : (c : ℕ) → number_at (history_of m (take t rows ++ s.over ∷ [])) t c ≡ number_of s.over c
  number_over c = flat_rows m (take t rows ++ s.over ∷ []) t c front ∙ ap (λ (r : Row). number_of r c) (get_or_push (take t rows) s.over [] t many)

  number_now : (c : ℕ) → number_at (history_of m rows) t c ≡ number_of (slice_index_or rows t []) c
  number_now c = flat_rows m rows t c all.are_rows

  -- what is set in the rows is set in their history
  is_set : IsSet m order (history_of m rows) t place
  is_set =
      let g = history_of m (take t rows ++ s.over ∷ []) in
      let cell = slice_index order place in
      let at_time = subst (λ (u : ℕ). IsCellGiven m g u cell (number_of (slice_index_or rows t []) cell)) many s.given in
      record {
        over = g;
        goes = record { of_kinds = rows_of_kinds m (take t rows ++ s.over ∷ []) front; within = omega (arith, long, length-map (take t rows ++ s.over ∷ []) (instant_of (variables m))) };
        agrees = record {
          before = same_before;
          now = all_of (λ c. number_at g t c ≡ number_at (history_of m rows) t c) (take place order) (λ c there. number_over c ∙ s.agrees c there ∙ sym (number_now c));
        };
        given = subst (IsCellGiven m g t cell) (sym (number_now cell)) at_time;
      }

-- the cells of a history of such rows are set
pub are_set : (m : HllModel) (order : List ℕ) (rows : List Row) → AreSetRows m order rows → AreSet m order (history_of m rows)
are_set m order rows all = record {
  of_kinds = rows_of_kinds m rows all.are_rows;
  set = λ t place within below.
      let inside : t < length rows = omega (arith, within, length-map rows (instant_of (variables m))) in
      is_set m order rows all t place inside (all.set t inside place below);
}

-- so the history is a run
pub set_rows_run : (m : HllModel) (order : List ℕ) (rows : List Row) → HasText m → Well m → IsCellOrder m order → AreSetRows m order rows → IsRun m (history_of m rows)
set_rows_run m order rows text well is_order all =
    (runs_by_cells m (history_of m rows) text well).1 (cells_make_runs m order (history_of m rows) text well is_order (are_set m order rows all))
