-- What holds of where parts stand.
use Rattle.std.specs.Prelude.{◌≡◌, ℕ, ◌+◌, ◌<◌, ◌≤◌, pos, List, [], length, Some}
use Rattle.std.specs.List.{AllByRecursion, slice_index_or}
use Rattle.hll_tree.specs.declared.tree.HllModel.{HllModel}
use Rattle.hll_meaning.specs.Declarations.{names}
use Rattle.hll_meaning.specs.Kinds.{Kind, Value, Typed, Step, cells, steps_into}
use Rattle.hll_meaning.specs.Runs.{AreOfKinds, variables}
use Rattle.hll_meaning.specs.StaticRules.{Well}
use Rattle.hll_meaning.specs.Values.{History, variable_in}
use Rattle.dependence.specs.Dependence.{cell_count}
use Rattle.dependence.specs.Mentions.{Stretch, Pick, reached, stretch_of}
use Rattle.dependence.specs.Rows.{number_at}
use Rattle.cell_layout.specs.Steps.{stretches_into}

-- a text without faults has at most 100,000 cells
abbrev pub CellsAreFew : Type 0
CellsAreFew = (m : HllModel) → Well m → cell_count m ≤ 100000

-- What steps lead to in the value that the variable of a name has at a time. It stands within the variable's cells, and within all
-- cells of the text, and the row of all cells has its numbers, from its first cell on.
pub record StandsInRow (m : HllModel) (h : History) (t : ℕ) (variable : List ℕ) (steps : List Step) (x y : Stretch) : Type 0 where
  pub value : Value
  pub found : steps_into (variable_in (names m) (slice_index_or h t []) variable) steps ≡ Some (record { kind = y.kind; value = value })
  pub from : x.start ≤ y.start
  pub to : y.start + cells y.kind ≤ x.start + cells x.kind
  pub within : y.start + cells y.kind ≤ cell_count m
  pub numbers : (place : ℕ) → place < cells y.kind → slice_index_or value place (pos 0) ≡ number_at h t (y.start + place)

-- in a text without faults, at each instant of a history whose variables lie in their kinds, where steps lead from a variable to
-- cells, they lead in its value to what stands there
abbrev pub PartsStandInRows : Type 0
PartsStandInRows =
    (m : HllModel) (h : History) (t : ℕ) (variable : List ℕ) (steps : List Step) (x y : Stretch) → Well m → AllByRecursion (AreOfKinds (variables m)) h → t < length h →
    stretch_of (variables m) variable ≡ Some x → stretches_into (Some x) steps ≡ Some y → StandsInRow m h t variable steps x y

-- steps lead from a first cell to cells of a kind
pub record LeadsTo (start : ℕ) (k : Kind) (steps : List Step) (to : Kind) : Type 0 where
  pub part : Stretch
  pub found : stretches_into (Some (record { start = start; kind = k })) steps ≡ Some part
  pub kind : part.kind ≡ to

-- where steps lead to a part of a value, they lead from any first cell to cells of its kind
abbrev pub StepsLeadAlike : Type 0
StepsLeadAlike =
    (start : ℕ) (k : Kind) (v : Value) (steps : List Step) (t : Typed) → steps_into (Some (record { kind = k; value = v })) steps ≡ Some t → LeadsTo start k steps t.kind

-- in a text without faults, where picks reach cells of a variable, these are not behind the end of all cells
abbrev pub ReachedCellsAreFew : Type 0
ReachedCellsAreFew =
    (m : HllModel) (variable : List ℕ) (x : Stretch) (picks : List Pick) → Well m → stretch_of (variables m) variable ≡ Some x →
    AllByRecursion (λ at. x.start + at ≤ cell_count m) (reached x.kind picks)
