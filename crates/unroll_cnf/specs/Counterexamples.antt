-- Which tables break an obligation or a part, and the tables and assignments that show each other. No clause is
-- spoken of here.
use Rattle.std.specs.Prelude.{◌≡◌, ℕ, ℤ, ◌+◌, ◌<◌, ◌↔◌, true, false, List, [], length, map, All, slice_index_or}
use Rattle.std.specs.List.{flat_map, range_with_len}
use Rattle.lll_core.specs.declared.signal.Signal.{Signal}
use Rattle.lll_core.specs.declared.lll.Lll.{Lll}
use Rattle.lll_core.specs.Tables.{Instant, Table, value, IsRun, IsWindow}
use Rattle.miter.specs.declared.parts.MiterLll.{MiterLll}
use Rattle.rup_checker.specs.Formulas.{Assignment, Satisfies, listed}
use Rattle.unroll_cnf.specs.Clauses.{variable_at}
use Rattle.unroll_cnf.specs.Unrollings.{obligation, part}

-- the instant of a table with this number
abbrev pub instant_at : Table → ℕ → Instant
instant_at g instant = slice_index_or g instant []

-- assume and each constraint are true
pub record IsAdmitted (l : Lll) (now : Instant) : Type 0 where
  pub assumed : value now l.assume ≡ true
  pub constrained : All (λ c. value now c ≡ true) l.constraints

-- a run of j + 1 instants that meets assume and constraints throughout, and has the obligation false at the last
pub record IsCounterexample (l : Lll) (p j : ℕ) (g : Table) : Type 0 where
  pub run : IsRun l.signals g
  pub long : length g ≡ j + 1
  pub admitted : All (IsAdmitted l) g
  pub broken : value (instant_at g j) (obligation l p) ≡ false

-- a window of k + 1 instants that has keep true at the first, meets assume and constraints throughout, and has the
-- obligation true at the first k and false at the last
pub record IsInductionCounterexample (l : Lll) (p k : ℕ) (g : Table) : Type 0 where
  pub window : IsWindow l.signals g
  pub long : length g ≡ k + 1
  pub kept : value (instant_at g 0) l.keep ≡ true
  pub admitted : All (IsAdmitted l) g
  pub held : (t : ℕ) → t < k → value (instant_at g t) (obligation l p) ≡ true
  pub broken : value (instant_at g k) (obligation l p) ≡ false

-- a run of one instant that meets assume and has a part false
pub record IsPartCounterexample (m : MiterLll) (i : ℕ) (g : Table) : Type 0 where
  pub run : IsRun m.lll.signals g
  pub long : length g ≡ 1
  pub assumed : value (instant_at g 0) m.lll.assume ≡ true
  pub broken : value (instant_at g 0) (part m i) ≡ false

-- a window of two instants that meets assume at both, and has all parts true at the first and one false at the second
pub record IsPartInductionCounterexample (m : MiterLll) (i : ℕ) (g : Table) : Type 0 where
  pub window : IsWindow m.lll.signals g
  pub long : length g ≡ 2
  pub assumed : All (λ now. value now m.lll.assume ≡ true) g
  pub held : All (λ q. value (instant_at g 0) q ≡ true) m.parts
  pub broken : value (instant_at g 1) (part m i) ≡ false

-- ---- tables and assignments

-- the values that an assignment gives to so many signals at an instant
abbrev pub shown_at : ℕ → Assignment → ℕ → Instant
shown_at size v instant = map (λ s. v (variable_at size instant s)) (range_with_len 0 size)

-- the table that an assignment shows: the value of each signal at each of so many instants
abbrev pub shown : List Signal → ℕ → Assignment → Table
shown signals instants v = map (shown_at (length signals) v) (range_with_len 0 instants)

-- the assignment that shows a table: its instants one after the other
abbrev pub assignment_of : Table → Assignment
assignment_of g = listed (flat_map (λ now. now) g)

-- some assignment satisfies the clauses
abbrev pub IsSatisfiable : List (List ℤ) → Type 0
IsSatisfiable clauses = (v : Assignment) × Satisfies v clauses

-- the clauses are satisfied by just the assignments that show such a table, and each such table is shown by one
pub record Describes (clauses : List (List ℤ)) (signals : List Signal) (instants : ℕ) (Is : Table → Type 0) : Type 0 where
  pub shows : (v : Assignment) → Satisfies v clauses ↔ Is (shown signals instants v)
  pub there : (g : Table) → Is g → shown signals instants (assignment_of g) ≡ g
  pub satisfiable : IsSatisfiable clauses ↔ ((g : Table) × Is g)
