-- Sets of literals, kept as a mark for each literal.
use Rattle.std.specs.Prelude.{◌≡◌, ◌+◌, ◌*◌, ◌↔◌, ℕ, ℤ, pos, negsuc, nat_abs, Bool, true, false, List, Contains, slice_index_or}
use Rattle.rup_checker.specs.Formulas.{IsLiteral}

-- 1 for a negated variable, else 0
abbrev pub sign_of : ℤ → ℕ
sign_of (pos n) = 0
sign_of (negsuc n) = 1

-- the place of a literal in a list by literals: a variable's literals stand side by side
abbrev pub place_of : ℤ → ℕ
place_of l = 2 * nat_abs l + sign_of l

-- a mark for each literal of the variables 1 to n, by their places
pub record Marking : Type 0 where
  pub variables : ℕ
  pub flags : List Bool

-- the literal is marked
abbrev pub IsMarked : Marking → ℤ → Type 0
IsMarked set l = slice_index_or set.flags (place_of l) false ≡ true

-- no literal is marked
abbrev pub IsClear : Marking → Type 0
IsClear set = (l : ℤ) → IsLiteral set.variables l → ¬ (IsMarked set l)

-- just the literals of the list are marked
abbrev pub Marks : Marking → List ℤ → Type 0
Marks set literals = (l : ℤ) → IsLiteral set.variables l → IsMarked set l ↔ Contains literals l
