-- In a causal text each list of input values has one run, and no other.
use Rattle.std.proofs.Common.{◌≡◌, ℕ, zero, suc, ◌+◌, ◌<◌, ◌≤◌, ◌⊎◌, inl, inr, pos, List, [], ◌∷◌, ◌++◌, map, length, take, sym, ap, subst, ◌∙◌, arith, append_assoc, append-nil}
use Rattle.std.specs.List.{AllByRecursion, slice_index, slice_index_or}
use Rattle.std.proofs.lemmas.Bool.{cases_lt}
use Rattle.std.proofs.lemmas.List.{ext_get_or, get_or-map, length-map}
use Rattle.graphs.proofs.Lists.{place_in_take}
use Rattle.hll_tree.specs.declared.tree.HllModel.{HllModel}
use Rattle.hll_meaning.specs.Declarations.{names}
use Rattle.hll_meaning.specs.Runs.{AreOfKinds, IsRun, variables}
use Rattle.hll_meaning.specs.StaticRules.{Well}
use Rattle.hll_meaning.specs.Texts.{HasText}
use Rattle.hll_meaning.specs.Values.{History}
use Rattle.dependence.specs.Causality.{IsCellOrder, IsInputRow, InputsHaveOneRun}
use Rattle.dependence.specs.CellRuns.{IsCellGiven, IsCellRun}
use Rattle.dependence.specs.Laws.{AgreeOn}
use Rattle.dependence.specs.Rows.{Row, IsRow, history_of, inputs_at, number_at, row_of}
use Rattle.dependence.specs.Ways.{free, IsInputCell, IsWay, HasOneWay}
use Rattle.dependence.proofs.CellNumbers.{HasLooked, free_or_looked, input_or_same}
use Rattle.dependence.proofs.CellOrders.{texts_have_orders}
use Rattle.dependence.proofs.CellWays.{one_way}
use Rattle.dependence.proofs.FilledRows.{AreFilled, IsBegun, filled_run, input_begun, looked_begun, none_filled, one_more_filled, same_cells, start_begun}
use Rattle.dependence.proofs.GivenNumbers.{given_numbers_go, runs_by_cells}
use Rattle.dependence.proofs.LowerEnds.{variables_lower}
use Rattle.dependence.proofs.RowNumbers.{row_length, same_instant, start_inputs, start_row, start_within}
use Rattle.dependence.proofs.RunsOfCells.{all_at}
use Rattle.dependence.proofs.Setting.{all_of, cell_same, place_of}

-- ---- a run

module _ (m : HllModel) (text : HasText m) (well : Well m) (order : List ℕ) (is_order : IsCellOrder m order) where
  -- a row in which so many cells of the order are set
  record HasRow (rows : List Row) (start : Row) (count : ℕ) : Type 0 where
    row : Row
    begun : IsBegun m order rows start row count

  -- one cell after the other
  has_row : (rows : List Row) (start : Row) → AllByRecursion (IsRow m) rows → IsRow m start → (count : ℕ) → count ≤ length order → HasRow rows start count
  has_row rows start all is_row zero low = record { row = start; begun = start_begun m order rows start is_row }
  has_row rows start all is_row (suc count) low = subst (HasRow rows start) one (further (has_row rows start all is_row count (omega (arith, low))) (free_or_looked m (length rows) (slice_index order count) way.way way.is_way))
    where
      one : count + 1 ≡ suc count
      one = omega arith

      within : count < length order
      within = omega (arith, low)

      way : HasOneWay m (slice_index order count)
      way = one_way m (slice_index order count) well (is_order.nodes count 0 within)

      further : HasRow rows start count → IsWay m (slice_index order count) free ⊎ HasLooked m (length rows) (slice_index order count) → HasRow rows start (count + 1)
      further h (inl input) = record { row = h.row; begun = input_begun m text well order is_order rows start h.row count within h.begun input }
      further h (inr l) =
          record { row = _; begun = looked_begun m text well order is_order rows start h.row count within h.begun all l.definition l.element l.place l.defined l.expr l.time l.looked }

  -- rows with these numbers of the inputs
  record HasRows (inputs : List Row) : Type 0 where
    pub rows : List Row
    pub filled : AreFilled m order inputs rows

  further_row : (before : List Row) (input : Row) → IsInputRow m input → HasRows before → HasRows (before ++ input ∷ [])
  further_row before input is h =
      let start = start_row (names m) input in
      let start_is : IsRow m start = start_within (names m) input (variables_lower m well) is in
      let r = has_row h.rows start h.filled.set.are_rows start_is (length order) (omega arith) in
      record { rows = h.rows ++ r.row ∷ []; filled = one_more_filled m order before h.rows input start r.row well h.filled start_is (start_inputs (names m) input is) r.begun }

  all_rows : (inputs before : List Row) → AllByRecursion (IsInputRow m) inputs → HasRows before → HasRows (before ++ inputs)
  all_rows [] before are h = subst HasRows (sym (append-nil before)) h
  all_rows (input ∷ inputs) before are h = subst HasRows (append_assoc before (input ∷ []) inputs) (all_rows inputs (before ++ input ∷ []) are.1 (further_row before input are.0 h))

  has_rows : (inputs : List Row) → AllByRecursion (IsInputRow m) inputs → HasRows inputs
  has_rows inputs are = all_rows inputs [] are (record { rows = []; filled = none_filled m order })

-- ---- no other run

module _ (m : HllModel) (text : HasText m) (well : Well m) (order : List ℕ) (is_order : IsCellOrder m order) (g h : History) (run : IsRun m g) (other : IsRun m h) (inputs : map (inputs_at (names m)) g ≡ map (inputs_at (names m)) h) where
  long : length g ≡ length h
  long = sym (length-map g (inputs_at (names m))) ∙ ap length inputs ∙ length-map h (inputs_at (names m))

  first_run : IsCellRun m g
  first_run = (runs_by_cells m g text well).0 run

  second_run : IsCellRun m h
  second_run = (runs_by_cells m h text well).0 other

  module _ (t : ℕ) (within : t < length g) (before : (u : ℕ) → u < t → slice_index_or g u [] ≡ slice_index_or h u []) where
    inside : t < length h
    inside = omega (arith, within, long)

    first_kinds : AreOfKinds (variables m) (slice_index_or g t [])
    first_kinds = all_at (AreOfKinds (variables m)) g [] t within run.of_kinds

    second_kinds : AreOfKinds (variables m) (slice_index_or h t [])
    second_kinds = all_at (AreOfKinds (variables m)) h [] t inside other.of_kinds

    same_input : inputs_at (names m) (slice_index_or g t []) ≡ inputs_at (names m) (slice_index_or h t [])
    same_input = sym (get_or-map (inputs_at (names m)) g t [] [] within) ∙ ap (λ (rows : List Row). slice_index_or rows t []) inputs ∙ get_or-map (inputs_at (names m)) h t [] [] inside

    -- the cell at a place of the order has the same number, where those in front of it have
    one_same : (place : ℕ) → place < length order → ((i : ℕ) → i < place → number_at g t (slice_index order i) ≡ number_at h t (slice_index order i)) → number_at g t (slice_index order place) ≡ number_at h t (slice_index order place)
    one_same place below earlier = by (input_or_same m (slice_index order place) w.way w.is_way h t (number_at g t (slice_index order place)) (number_at h t (slice_index order place)) given (second_run.given t (slice_index order place) inside))
      where
        w : HasOneWay m (slice_index order place)
        w = one_way m (slice_index order place) well (is_order.nodes place 0 below)

        agree : AgreeOn t g h (take place order)
        agree = record {
          before = before;
          now = all_of (λ c. number_at g t c ≡ number_at h t c) (take place order)
              (λ c there. let at = place_in_take place order c (omega (arith, below)) there in subst (λ (z : ℕ). number_at g t z ≡ number_at h t z) at.2 (earlier at.0 at.1));
        }

        given : IsCellGiven m h t (slice_index order place) (number_at g t (slice_index order place))
        given =
            cell_same m (given_numbers_go m text well) t (slice_index order place) g h (take place order) (number_at g t (slice_index order place)) (record { of_kinds = run.of_kinds; within = within }) (record { of_kinds = other.of_kinds; within = inside }) agree
            (λ c depends. is_order.after place c below depends) (first_run.given t (slice_index order place) within)

        by : IsInputCell m (slice_index order place) ⊎ (number_at g t (slice_index order place) ≡ number_at h t (slice_index order place)) → number_at g t (slice_index order place) ≡ number_at h t (slice_index order place)
        by (inl input) = same_cells m (slice_index_or g t []) (slice_index_or h t []) first_kinds second_kinds same_input (slice_index order place) input
        by (inr same) = same

    all_same : (count : ℕ) → count ≤ length order → (i : ℕ) → i < count → number_at g t (slice_index order i) ≡ number_at h t (slice_index order i)
    all_same zero low i below = absurd (omega (arith, below))
    all_same (suc count) low i below = by (all_same count (omega (arith, low))) (cases_lt i count)
      where
        by : ((j : ℕ) → j < count → number_at g t (slice_index order j) ≡ number_at h t (slice_index order j)) → (i < count) ⊎ (count ≤ i) → number_at g t (slice_index order i) ≡ number_at h t (slice_index order i)
        by earlier (inl less) = earlier i less
        by earlier (inr late) =
            let is : count ≡ i = omega (arith, late, below) in
            subst (λ (j : ℕ). number_at g t (slice_index order j) ≡ number_at h t (slice_index order j)) is (one_same count (omega (arith, low)) earlier)

    instants_same : slice_index_or g t [] ≡ slice_index_or h t []
    instants_same =
        let first = row_length (variables m) (slice_index_or g t []) first_kinds in
        let second = row_length (variables m) (slice_index_or h t []) second_kinds in
        same_instant (variables m) (slice_index_or g t []) (slice_index_or h t []) first_kinds second_kinds
        (ext_get_or (pos 0) (row_of (slice_index_or g t [])) (row_of (slice_index_or h t [])) (first ∙ sym second)
        (λ cell below.
        let p = place_of order cell (is_order.all cell (omega (arith, first, below))) in
        subst (λ (c : ℕ). number_at g t c ≡ number_at h t c) p.is (all_same (length order) (omega arith) p.place p.below)))

  all_before : (t : ℕ) → t ≤ length g → (u : ℕ) → u < t → slice_index_or g u [] ≡ slice_index_or h u []
  all_before zero low u below = absurd (omega (arith, below))
  all_before (suc t) low u below = by (all_before t (omega (arith, low))) (cases_lt u t)
    where
      by : ((v : ℕ) → v < t → slice_index_or g v [] ≡ slice_index_or h v []) → (u < t) ⊎ (t ≤ u) → slice_index_or g u [] ≡ slice_index_or h u []
      by earlier (inl less) = earlier u less
      by earlier (inr late) =
          let is : t ≡ u = omega (arith, late, below) in
          subst (λ (z : ℕ). slice_index_or g z [] ≡ slice_index_or h z []) is (instants_same t (omega (arith, low)) earlier)

  -- runs with the same numbers of the inputs are the same
  pub same_runs : g ≡ h
  same_runs = ext_get_or [] g h long (λ t below. all_before (length g) (omega arith) t below)

-- in a causal text each list of input values has one run
pub one_run : InputsHaveOneRun
one_run m inputs text well causal are =
    let order = (texts_have_orders m text well).0 causal in
    let r = has_rows m text well order.0 order.1 inputs are in
    let run = filled_run m order.0 inputs r.rows text well order.1 r.filled in
    record {
      history = history_of m r.rows;
      is_run = run;
      only = λ other is. same_runs m text well order.0 order.1 other (history_of m r.rows) is.run run.run (is.inputs_are ∙ sym run.inputs_are);
    }
