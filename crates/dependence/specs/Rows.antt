-- Histories as rows of numbers: for each instant the numbers of all cells, in their order.
use Rattle.std.specs.Prelude.{◌≡◌, ℕ, true, false, ℤ, pos, List, [], ◌∷◌, ◌++◌, map, take, drop}
use Rattle.std.specs.List.{flat_map, slice_index_or}
use Rattle.hll_tree.specs.declared.tree.HllModel.{HllModel}
use Rattle.hll_meaning.specs.Kinds.{Kind, cells, ranges, AreIn}
use Rattle.hll_meaning.specs.Names.{constant, type_of, code_in, variable, later, Names}
use Rattle.hll_meaning.specs.Declarations.{names}
use Rattle.hll_meaning.specs.Runs.{variables, IsRun}
use Rattle.hll_meaning.specs.Values.{Instant, History}

-- the numbers of all cells at an instant
abbrev pub Row : Type 0
Row = List ℤ

-- the value of each variable, from the numbers of all cells
abbrev pub instant_of : List (List ℕ × Kind) → Row → Instant
instant_of [] row = []
instant_of (x ∷ xs) row = take (cells x.1) row ∷ instant_of xs (drop (cells x.1) row)

-- the history that rows are
abbrev pub history_of : HllModel → List Row → History
history_of m = map (instant_of (variables m))

-- the numbers of all cells at an instant, from the value of each variable
abbrev pub row_of : Instant → Row
row_of values = flat_map (λ v. v) values

-- the number of a cell at a time
abbrev pub number_at : History → ℕ → ℕ → ℤ
number_at h t cell = slice_index_or (row_of (slice_index_or h t [])) cell (pos 0)

-- a row has a number for each cell, between its ends
abbrev pub IsRow : HllModel → Row → Type 0
IsRow m row = AreIn (flat_map (λ x. ranges x.1) (variables m)) row

-- the numbers of the input cells at an instant, in their order
abbrev pub inputs_at : Names → Instant → Row
inputs_at [] values = []
inputs_at ((own, constant b x) ∷ all) values = inputs_at all values
inputs_at ((own, type_of k) ∷ all) values = inputs_at all values
inputs_at ((own, code_in root c) ∷ all) values = inputs_at all values
inputs_at ((own, variable input k) ∷ all) [] = []
inputs_at ((own, variable true k) ∷ all) (v ∷ vs) = v ++ inputs_at all vs
inputs_at ((own, variable false k) ∷ all) (v ∷ vs) = inputs_at all vs
inputs_at ((own, later) ∷ all) values = inputs_at all values

-- a run with these numbers of the input cells, a row for each instant
pub record IsRunOf (m : HllModel) (inputs : List Row) (h : History) : Type 0 where
  pub run : IsRun m h
  pub inputs_are : map (inputs_at (names m)) h ≡ inputs
