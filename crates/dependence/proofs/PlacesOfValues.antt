-- The numbers at places of values: in rows of all cells, and of variables in them.
use Rattle.std.proofs.Common.{◌≡◌, ℕ, zero, suc, ◌+◌, ◌-◌, ◌<◌, ◌≤◌, pos, Bool, true, false, List, [], ◌∷◌, ◌++◌, length, take, drop, Some, refl, sym, ap, subst, ◌∙◌, arith}
use Rattle.std.specs.Prelude.{slice_index_or}
use Rattle.std.specs.List.{AllByRecursion, flat_map}
use Rattle.std.specs.Str.{bytes_eq}
use Rattle.std.proofs.Common.{take-append-drop}
use Rattle.hll_tree.specs.declared.tree.HllModel.{HllModel}
use Rattle.hll_meaning.specs.Kinds.{Kind, Value, AreIn, IsOf, cells, ranges}
use Rattle.hll_meaning.specs.Names.{constant, type_of, code_in, variable, later, Names}
use Rattle.hll_meaning.specs.Runs.{variables, variables_among, AreOfKinds}
use Rattle.hll_meaning.specs.Values.{Instant, variable_in}
use Rattle.hll_meaning.proofs.AreIn.{AreIn_back}
use Rattle.hll_meaning.proofs.Scenes.{by_test}
use Rattle.dependence.specs.Mentions.{Stretch, stretch_from}
use Rattle.dependence.specs.Rows.{Row, instant_of, history_of, row_of, number_at, IsRow}
use Rattle.dependence.proofs.DefinedCells.{stretch_here, stretch_further, is_stretch}
use Rattle.dependence.proofs.Numbers.{number_of, in_front_part, in_back_part, as_many}

-- ---- rows

-- the numbers of the values that a row is are the row again
pub same_row : (xs : List (List ℕ × Kind)) (row : Row) → AreIn (flat_map (λ x. ranges x.1) xs) row → row_of (instant_of xs row) ≡ row
same_row [] [] h = refl
same_row [] (n ∷ row) h = absurd h
same_row (x ∷ xs) row h =
    ap (λ (rest : Row). take (cells x.1) row ++ rest) (same_row xs (drop (cells x.1) row) (AreIn_back (ranges x.1) (flat_map (λ x. ranges x.1) xs) row h))
    ∙ take-append-drop (cells x.1) row

-- the number of a cell at a time in the history that rows are
pub flat_rows : (m : HllModel) (rows : List Row) (t cell : ℕ) → AllByRecursion (IsRow m) rows → number_at (history_of m rows) t cell ≡ slice_index_or (slice_index_or rows t []) cell (pos 0)
flat_rows m [] t cell all = refl
flat_rows m (row ∷ rows) zero cell all = ap (λ (r : Row). slice_index_or r cell (pos 0)) (same_row (variables m) row all.0)
flat_rows m (row ∷ rows) (suc t) cell all = flat_rows m rows t cell all.1

-- ---- variables

-- the variable of a name at an instant: its value, whose numbers stand in the row of all cells from its first cell on
pub record IsInRow (ns : Names) (values : Instant) (from : ℕ) (n : List ℕ) (x : Stretch) : Type 0 where
  pub value : Value
  pub found : variable_in ns values n ≡ Some (record { kind = x.kind; value = value })
  pub of_kind : IsOf x.kind value
  pub numbers : (place cell : ℕ) → place < cells x.kind → from + cell ≡ x.start + place → number_of (row_of values) cell ≡ number_of value place

variable_here : (ns : Names) (v : Value) (vs : Instant) (from : ℕ) (n own : List ℕ) (input : Bool) (k : Kind) → bytes_eq own n ≡ true → IsOf k v → IsInRow ((own, variable input k) ∷ ns) (v ∷ vs) from n (record { start = from; kind = k })
variable_here ns v vs from n own input k same h = record {
  value = v;
  found = rw same refl;
  of_kind = h;
  numbers = λ place cell below is. ap (number_of (v ++ row_of vs)) (equal place cell is) ∙ in_front_part v (row_of vs) place (subst (λ (i : ℕ). place < i) (sym (as_many (ranges k) v h)) below);
}
  where
    equal : (place cell : ℕ) → from + cell ≡ from + place → cell ≡ place
    equal place cell is = omega arith

variable_further : (ns : Names) (v : Value) (vs : Instant) (from : ℕ) (n own : List ℕ) (input : Bool) (k : Kind) (x : Stretch) → bytes_eq own n ≡ false → IsOf k v → from + cells k ≤ x.start → IsInRow ns vs (from + cells k) n x → IsInRow ((own, variable input k) ∷ ns) (v ∷ vs) from n x
variable_further ns v vs from n own input k x other of behind h = record {
  value = h.value;
  found = skipped ∙ h.found;
  of_kind = h.of_kind;
  numbers = λ place cell below is.
      let rest : ℕ = cell - cells k in
      in_back_part v (row_of vs) rest cell (split cell place is) ∙ h.numbers place rest below (moved cell place is);
}
  where
    skipped : variable_in ((own, variable input k) ∷ ns) (v ∷ vs) n ≡ variable_in ns vs n
    skipped = rw other refl

    split : (cell place : ℕ) → from + cell ≡ x.start + place → cell ≡ length v + (cell - cells k)
    split cell place is = omega (arith, as_many (ranges k) v of, behind)

    moved : (cell place : ℕ) → from + cell ≡ x.start + place → (from + cells k) + (cell - cells k) ≡ x.start + place
    moved cell place is = omega (arith, behind)

pub in_row : (ns : Names) (values : Instant) → AreOfKinds (variables_among ns) values → (from : ℕ) (n : List ℕ) (x : Stretch) → stretch_from from (variables_among ns) n ≡ Some x → IsInRow ns values from n x
in_row [] values all from n x is = absurd (cc is)
in_row ((own, constant b y) ∷ ns) values all from n x is = let h = in_row ns values all from n x is in record { value = h.value; found = h.found; of_kind = h.of_kind; numbers = h.numbers }
in_row ((own, type_of l) ∷ ns) values all from n x is = let h = in_row ns values all from n x is in record { value = h.value; found = h.found; of_kind = h.of_kind; numbers = h.numbers }
in_row ((own, code_in root c) ∷ ns) values all from n x is = let h = in_row ns values all from n x is in record { value = h.value; found = h.found; of_kind = h.of_kind; numbers = h.numbers }
in_row ((own, later) ∷ ns) values all from n x is = let h = in_row ns values all from n x is in record { value = h.value; found = h.found; of_kind = h.of_kind; numbers = h.numbers }
in_row ((own, variable input k) ∷ ns) [] all from n x is = absurd all
in_row ((own, variable input k) ∷ ns) (v ∷ vs) all from n x is =
    by_test (bytes_eq own n)
    (λ same.
    let e : Some (record { start = from; kind = k }) ≡ Some x = sym (stretch_here from own k (variables_among ns) n same) ∙ is in
    let f : record { start = from; kind = k } ≡ x = cc e in
    subst (IsInRow ((own, variable input k) ∷ ns) (v ∷ vs) from n) f (variable_here ns v vs from n own input k same all.0))
    (λ other.
    let there = sym (stretch_further from own k (variables_among ns) n other) ∙ is in
    variable_further ns v vs from n own input k x other all.0 (is_stretch (from + cells k) (variables_among ns) n x there).from (in_row ns vs all.1 (from + cells k) n x there))
