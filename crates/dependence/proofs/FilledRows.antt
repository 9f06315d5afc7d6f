-- Rows that are filled cell after cell and row after row, with the numbers of inputs, make a run with these inputs.
use Rattle.std.proofs.Common.{◌≡◌, ℕ, ◌+◌, ◌<◌, ℤ, pos, true, Some, List, [], ◌∷◌, ◌++◌, map, length, refl, sym, ap, subst, ◌∙◌, arith}
use Rattle.std.specs.Prelude.{◌≢◌}
use Rattle.std.specs.List.{AllByRecursion, slice_index, slice_set}
use Rattle.std.proofs.lemmas.List.{ext_get_or, get_or-set_other, get_or-set_same, length-map, length_push, map-append}
use Rattle.hll_tree.specs.declared.tree.Def.{Def}
use Rattle.hll_tree.specs.declared.tree.Expr.{Expr}
use Rattle.hll_tree.specs.declared.tree.HllModel.{HllModel}
use Rattle.hll_tree.proofs.Gives.{all_append}
use Rattle.hll_meaning.specs.Declarations.{names}
use Rattle.hll_meaning.specs.Kinds.{Value, fit_one, is_in, ranges}
use Rattle.hll_meaning.specs.Names.{variable, under}
use Rattle.hll_meaning.specs.Runs.{Element, AreOfKinds, scene, value_under, variables}
use Rattle.hll_meaning.specs.StaticRules.{Well}
use Rattle.hll_meaning.specs.Texts.{HasText}
use Rattle.hll_meaning.specs.Values.{Instant, worth}
use Rattle.dependence.specs.Causality.{IsCellOrder}
use Rattle.dependence.specs.CellRuns.{IsCellGiven}
use Rattle.dependence.specs.Dependence.{IsDefinedBy}
use Rattle.dependence.specs.Laws.{GoesTo}
use Rattle.dependence.specs.Mentions.{Stretch, stretch_of}
use Rattle.dependence.specs.Rows.{Row, IsRow, IsRunOf, history_of, inputs_at, instant_of, row_of}
use Rattle.dependence.specs.Ways.{free, IsInputCell, IsWay}
use Rattle.dependence.proofs.CellNumbers.{IsLooked, looked_fitted, looked_gives, looked_within}
use Rattle.dependence.proofs.CellRanges.{row_ends}
use Rattle.dependence.proofs.CellWays.{inputs_free, one_way}
use Rattle.dependence.proofs.DistinctNames.{names_apart}
use Rattle.dependence.proofs.Members.{in_none}
use Rattle.dependence.proofs.Numbers.{number_of, as_many}
use Rattle.dependence.proofs.PlacesOfValues.{same_row}
use Rattle.dependence.proofs.RowNumbers.{ends_at, ends_length, inputs_from, row_of_kinds, rows_of_kinds, same_inputs, set_within}
use Rattle.dependence.proofs.RunsOfCells.{number_of_cell, value_of_kind}
use Rattle.dependence.proofs.SetRows.{AreSetIn, AreSetRows, none_set, no_rows, one_more_set, one_more_row, set_rows_run}

-- ---- the numbers of inputs

-- the cell of an input, in an instant of values of their kinds
input_number : (m : HllModel) (vs : Instant) (cell : ℕ) → AreOfKinds (variables m) vs → (i : IsInputCell m cell) → number_of (value_under (variables m) vs i.name) i.rest ≡ number_of (row_of vs) cell
input_number m vs cell h i = number_of_cell 0 (variables m) vs i.name i.stretch i.rest cell i.is_variable h i.within (omega (arith, i.is_cell))

-- instants in which the inputs have the same numbers have the same ones in each cell of an input
pub same_cells : (m : HllModel) (vs ws : Instant) → AreOfKinds (variables m) vs → AreOfKinds (variables m) ws → inputs_at (names m) vs ≡ inputs_at (names m) ws → (cell : ℕ) → IsInputCell m cell → number_of (row_of vs) cell ≡ number_of (row_of ws) cell
same_cells m vs ws h g same cell i =
    sym (input_number m vs cell h i) ∙ ap (λ (v : Value). number_of v i.rest) (same_inputs (names m) vs ws h g same i.name i.stretch.kind i.is_input) ∙ input_number m ws cell g i

-- and the other way round
pub same_numbers : (m : HllModel) → Well m → (vs ws : Instant) → AreOfKinds (variables m) vs → AreOfKinds (variables m) ws → ((cell : ℕ) → IsInputCell m cell → number_of (row_of vs) cell ≡ number_of (row_of ws) cell) →
    inputs_at (names m) vs ≡ inputs_at (names m) ws
same_numbers m well vs ws h g same = inputs_from (names m) 0 vs ws (names_apart m well) h g each
  where
    each : (n : List ℕ) (s : Stretch) → stretch_of (variables m) n ≡ Some s → under n (names m) ≡ Some (variable true s.kind) → value_under (variables m) vs n ≡ value_under (variables m) ws n
    each n s is u =
        let first = as_many (ranges s.kind) (value_under (variables m) vs n) (value_of_kind 0 (variables m) vs n s is h) in
        let second = as_many (ranges s.kind) (value_under (variables m) ws n) (value_of_kind 0 (variables m) ws n s is g) in
        ext_get_or (pos 0) (value_under (variables m) vs n) (value_under (variables m) ws n) (first ∙ sym second)
        (λ i below.
        let cell : IsInputCell m (s.start + i) = record { name = n; stretch = s; is_variable = is; is_input = u; rest = i; within = omega (arith, first, below); is_cell = refl } in
        input_number m vs (s.start + i) h cell ∙ same (s.start + i) cell ∙ sym (input_number m ws (s.start + i) g cell))

-- ---- a row

-- A row behind others in which so many cells of an order are set, and each cell of an input has the number that it has in the row at
-- the start.
pub record IsBegun (m : HllModel) (order : List ℕ) (rows : List Row) (start row : Row) (count : ℕ) : Type 0 where
  pub is_row : IsRow m row
  pub inputs : (cell : ℕ) → IsInputCell m cell → number_of row cell ≡ number_of start cell
  pub set : AreSetIn m order rows row count

-- at the start none is set
pub start_begun : (m : HllModel) (order : List ℕ) (rows : List Row) (start : Row) → IsRow m start → IsBegun m order rows start start 0
start_begun m order rows start is_row = record { is_row = is_row; inputs = λ cell i. refl; set = none_set m order rows start }

module _ (m : HllModel) (text : HasText m) (well : Well m) (order : List ℕ) (is_order : IsCellOrder m order) (rows : List Row) (start row : Row) (place : ℕ) (within : place < length order) (b : IsBegun m order rows start row place) where
  -- a cell of an input keeps its number
  pub input_begun : IsWay m (slice_index order place) free → IsBegun m order rows start row (place + 1)
  input_begun input = record {
    is_row = b.is_row;
    inputs = b.inputs;
    set = one_more_set m order is_order rows row row place within b.is_row
        (record { others = λ c other. refl; given = λ d e p by. absurd (in_none d (input.1.only d (e, p, by))) }) b.set;
  }

  -- the row with another number of the cell at the place
  abbrev with_number : ℤ → Row
  with_number x = slice_set row (slice_index order place) x

  inside : slice_index order place < length row
  inside = omega (arith, is_order.nodes place 0 within, as_many (row_ends m) row b.is_row, ends_length (variables m))

  -- another cell gets a number that its definitions give it, between its ends
  pub given_begun : (x : ℤ) → ¬ (IsInputCell m (slice_index order place)) → IsCellGiven m (history_of m (rows ++ row ∷ [])) (length rows) (slice_index order place) x → is_in (ends_at (row_ends m) (slice_index order place)) x ≡ true →
      IsBegun m order rows start (with_number x) (place + 1)
  given_begun x no_input given in_ends =
      let cell = slice_index order place in
      let others : (c : ℕ) → c ≢ cell → number_of (with_number x) c ≡ number_of row c = λ c other. get_or-set_other row cell c x (pos 0) other in
      let own : number_of (with_number x) cell ≡ x = get_or-set_same row cell x (pos 0) inside in
      record {
        is_row = set_within (row_ends m) row cell x b.is_row in_ends;
        inputs = λ c i. others c (λ same. no_input (subst (IsInputCell m) same i)) ∙ b.inputs c i;
        set = one_more_set m order is_order rows row (with_number x) place within b.is_row
            (record { others = others; given = subst (IsCellGiven m (history_of m (rows ++ row ∷ [])) (length rows) cell) (sym own) given }) b.set;
      }

  module _ (all : AllByRecursion (IsRow m) rows) (d : Def) (e : Element) (p : ℕ) (by : IsDefinedBy m (slice_index order place) d e p) (expr : Expr) (u : ℕ) (l : IsLooked d.part (length rows) expr u) where
    goes : GoesTo m (length rows) (history_of m (rows ++ row ∷ []))
    goes = record {
      of_kinds = rows_of_kinds m (rows ++ row ∷ []) (all_append (IsRow m) rows (row ∷ []) all (b.is_row, tt));
      within = omega (arith, length-map (rows ++ row ∷ []) (instant_of (variables m)), length_push rows row);
    }

    -- the number that is looked at
    abbrev looked_number : ℤ
    looked_number = fit_one (ends_at (row_ends m) (slice_index order place)) (number_of (worth expr (scene m (history_of m (rows ++ row ∷ [])) u e.bound)) p)

    -- the cell gets what is looked at for it over the rows so far, fitted to its ends
    pub looked_begun : IsBegun m order rows start (with_number looked_number) (place + 1)
    looked_begun =
        let cell = slice_index order place in
        let h = history_of m (rows ++ row ∷ []) in
        let way = one_way m cell well (is_order.nodes place 0 within) in
        let fitted = looked_fitted m text well cell d e p by h (length rows) goes expr u l in
        given_begun looked_number (λ input. inputs_free m cell d well input (e, p, by))
        (looked_gives m well h (length rows) cell looked_number d e p by expr u l (sym fitted) way.way way.is_way)
        (subst (λ (x : ℤ). is_in (ends_at (row_ends m) cell) x ≡ true) fitted (looked_within m text well cell d e p by h (length rows) goes expr u l))

-- ---- rows

-- rows in which all cells are set, with these numbers of the inputs
pub record AreFilled (m : HllModel) (order : List ℕ) (inputs rows : List Row) : Type 0 where
  pub set : AreSetRows m order rows
  pub inputs_are : map (inputs_at (names m)) (history_of m rows) ≡ inputs

pub none_filled : (m : HllModel) (order : List ℕ) → AreFilled m order [] []
none_filled m order = record { set = no_rows m order; inputs_are = refl }

-- a further row in which all cells are set, from one at the start that has the numbers of the inputs
pub one_more_filled : (m : HllModel) (order : List ℕ) (inputs rows : List Row) (input start row : Row) → Well m → AreFilled m order inputs rows → IsRow m start → inputs_at (names m) (instant_of (variables m) start) ≡ input →
    IsBegun m order rows start row (length order) → AreFilled m order (inputs ++ input ∷ []) (rows ++ row ∷ [])
one_more_filled m order inputs rows input start row well h start_is has b =
    let kept = same_numbers m well (instant_of (variables m) row) (instant_of (variables m) start) (row_of_kinds (variables m) row b.is_row) (row_of_kinds (variables m) start start_is)
    (λ cell i. ap (λ (r : Row). number_of r cell) (same_row (variables m) row b.is_row) ∙ b.inputs cell i ∙ sym (ap (λ (r : Row). number_of r cell) (same_row (variables m) start start_is))) in
    let own : inputs_at (names m) (instant_of (variables m) row) ≡ input = kept ∙ has in
    record {
      set = one_more_row m order rows row h.set b.is_row b.set;
      inputs_are =
          ap (map (inputs_at (names m))) (map-append (instant_of (variables m)) rows (row ∷ []))
          ∙ map-append (inputs_at (names m)) (history_of m rows) (instant_of (variables m) row ∷ [])
          ∙ (λ i. h.inputs_are i ++ own i ∷ []);
    }

-- filled rows are a run with these inputs
pub filled_run : (m : HllModel) (order : List ℕ) (inputs rows : List Row) → HasText m → Well m → IsCellOrder m order → AreFilled m order inputs rows → IsRunOf m inputs (history_of m rows)
filled_run m order inputs rows text well is_order h = record { run = set_rows_run m order rows text well is_order h.set; inputs_are = h.inputs_are }
