-- Formulas in conjunctive normal form, and what satisfies them.
use Rattle.std.specs.Prelude.{◌≡◌, ℕ, ◌-◌, ◌≤◌, ◌++◌, Bool, true, false, not, ℤ, pos, negsuc, suc, nat_abs, List, All, Any, slice_index_or}

-- what a formula says: how many variables it has, and its clauses in order, each a list of literals;
-- the literal v is the variable v, and -v its negation
pub record Cnf : Type 0 where
  pub variables : ℕ
  pub clauses : List (List ℤ)

-- the formula with these clauses after its own
abbrev pub extended : Cnf → List (List ℤ) → Cnf
extended f more = record f { clauses = f.clauses ++ more }

-- a literal of one of the variables 1 to n
pub record IsLiteral (n : ℕ) (l : ℤ) : Type 0 where
  pub some : 1 ≤ nat_abs l
  pub known : nat_abs l ≤ n

-- a formula has at most 16,000,000 variables, and every literal is one of them
pub record IsFormula (variables : ℕ) (clauses : List (List ℤ)) : Type 0 where
  pub bound : variables ≤ 16000000
  pub in_range : All (All (IsLiteral variables)) clauses

-- a truth value for each variable
abbrev pub Assignment : Type 0
Assignment = ℕ → Bool

-- what a literal is worth
abbrev pub truth : Assignment → ℤ → Bool
truth v (pos n) = v n
truth v (negsuc n) = not (v (suc n))

-- some literal of each clause is true
abbrev pub Satisfies : Assignment → List (List ℤ) → Type 0
Satisfies v clauses = All (Any (λ l. truth v l ≡ true)) clauses

-- no assignment satisfies the formula
abbrev pub IsUnsatisfiable : Cnf → Type 0
IsUnsatisfiable f = (v : Assignment) → ¬ (Satisfies v f.clauses)

-- the assignment that a list of truth values is, the value of variable 1 first
abbrev pub listed : List Bool → Assignment
listed values n = slice_index_or values (n - 1) false
