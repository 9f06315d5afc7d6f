-- Sets of literals, kept as a mark for each literal, and how a clause stands to such a set.
use Rattle.std.specs.Prelude.{◌≡◌, ◌≢◌, ◌↔◌, ℕ, ℤ, pos, ◌+ℤ◌, nat_abs, Bool, true, false, List, Contains, IsSomeAnd, slice_get, slice_index_or}
use Rattle.rup_checker.specs.declared.status.Status.{Status}
use Rattle.rup_checker.specs.declared.status.Status.TheVariants as status
use Rattle.rup_checker.specs.Formulas.{IsLiteral}
use Rattle.rup_checker.specs.Steps.{IsAllFalse, IsUnit}

-- a mark for each literal of the variables 1 to n, that of -n first
pub record LiteralMarks : Type 0 where
  pub variables : ℕ
  pub flags : List Bool

-- the place of a literal's mark
abbrev pub place_of : ℕ → ℤ → ℕ
place_of n l = nat_abs (l +ℤ pos n)

-- the literal is marked
abbrev pub IsMarked : LiteralMarks → ℤ → Type 0
IsMarked marks l = slice_index_or marks.flags (place_of marks.variables l) false ≡ true

-- just the literals of the list are marked
abbrev pub Marks : LiteralMarks → List ℤ → Type 0
Marks marks taken = (l : ℤ) → IsLiteral marks.variables l → IsMarked marks l ↔ Contains taken l

-- no literal is marked
abbrev pub IsClear : LiteralMarks → Type 0
IsClear marks = (l : ℤ) → IsLiteral marks.variables l → ¬ (IsMarked marks l)

-- two different literals of the clause are not among those taken false
pub record HasTwoLeft (Taken : ℤ → Type 0) (clause : List ℤ) : Type 0 where
  pub one : ℤ
  pub other : ℤ
  pub one_stands : Contains clause one
  pub other_stands : Contains clause other
  pub one_left : ¬ (Taken one)
  pub other_left : ¬ (Taken other)
  pub differ : one ≢ other

-- how a clause stands to the literals that are taken false
abbrev pub HasStatus : (ℤ → Type 0) → List ℤ → Status → Type 0
HasStatus Taken clause status.False = IsAllFalse Taken clause
HasStatus Taken clause (status.Unit l) = IsUnit Taken clause l
HasStatus Taken clause status.Open = HasTwoLeft Taken clause

-- the literal stands in a clause that a hint names
abbrev pub IsHinted : List (List ℤ) → List ℕ → ℤ → Type 0
IsHinted clauses hints l = (hint : ℕ) × Contains hints hint × IsSomeAnd (slice_get clauses hint) (λ c. Contains c l)
