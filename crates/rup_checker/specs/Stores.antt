-- Lists of clauses in one flat store, and what a checker knows.
use Rattle.std.specs.Prelude.{◌≡◌, ℕ, ◌≤◌, ℤ, List, [], ◌∷◌, ◌++◌, slice_range, slice_index, slice_index_or}
use Rattle.rup_checker.specs.Formulas.{Cnf}

-- what a store holds: its clauses, and for how many more clauses and literals it has memory
pub record Stored : Type 0 where
  pub clauses : List (List ℤ)
  pub spare_clauses : ℕ
  pub spare_literals : ℕ

-- what a checker knows: the clauses of the formula followed by those of the accepted steps, and for how many more
-- steps and literals it has memory
pub record Known : Type 0 where
  pub variables : ℕ
  pub clauses : List (List ℤ)
  pub spare_steps : ℕ
  pub spare_literals : ℕ

-- what is known where these clauses follow those of the formula
abbrev pub known_with : Cnf → Stored → Known
known_with f added = record {
  variables = f.variables;
  clauses = f.clauses ++ added.clauses;
  spare_steps = added.spare_clauses;
  spare_literals = added.spare_literals;
}

-- the accepted steps of a formula with so many variables
pub record Derived : Type 0 where
  pub variables : ℕ
  pub added : Stored

-- the pieces of a list that end at these places, the first from a place on
abbrev pub pieces : List ℤ → ℕ → List ℕ → List (List ℤ)
pieces xs from [] = []
pieces xs from (end ∷ ends) = slice_range xs from end ∷ pieces xs end ends

-- places in order, the last of which is the end of all
abbrev pub AreEnds : ℕ → List ℕ → ℕ → Type 0
AreEnds from [] all = from ≡ all
AreEnds from (end ∷ ends) all = (from ≤ end) × AreEnds end ends all

-- where the piece with this number starts
abbrev pub start_of : List ℕ → ℕ → ℕ
start_of ends number = slice_index (0 ∷ ends) number

-- the clause with this number
abbrev pub clause_at : List (List ℤ) → ℕ → List ℤ
clause_at clauses n = slice_index_or clauses n []
