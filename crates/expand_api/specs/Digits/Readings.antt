-- Reading one of several rows by an index.
use Rattle.std.specs.Prelude.{◌≡◌, ℕ, ◌+◌, ◌*◌, ◌^◌, ◌≤◌, Bool, List, [], ◌∷◌, length, slice_index_or, pos, int_lt, unsigned_abs, if◌then◌else◌}
use Rattle.std.specs.List.{AllByRecursion}
use Rattle.expand_api.specs.Digits.Values.{natural, signed, digits}
use Rattle.expand_api.specs.Digits.Comparisons.{equal}
use Rattle.expand_api.specs.Digits.Choices.{choice}

-- the row whose number the index has, where they are numbered from k on, by one equality for each; no such row gives other
abbrev pub read_by_equalities : ℕ → List Bool → List (List Bool) → List Bool → List Bool
read_by_equalities k index [] other = other
read_by_equalities k index (r ∷ rs) other = choice (equal index (digits (length index) k)) r (read_by_equalities (k + 1) index rs other)

-- of each two rows the one that the index's lowest digit x chooses; an odd last row stands before other
abbrev pub halved : Bool → List (List Bool) → List Bool → List (List Bool)
halved x [] other = []
halved x (r ∷ []) other = choice x other r ∷ []
halved x (r ∷ s ∷ rs) other = choice x s r ∷ halved x rs other

-- the row whose number the index has, by a tree of choices over the index's digits; no such row gives other
abbrev pub read_by_tree : List Bool → List (List Bool) → List Bool → List Bool
read_by_tree [] [] other = other
read_by_tree [] (r ∷ rs) other = r
read_by_tree (x ∷ xs) rows other = read_by_tree xs (halved x rows other) other

-- ---- laws

-- both ways read the row at the index
pub record ReadsRow (index : List Bool) (rows : List (List Bool)) (other : List Bool) : Type 0 where
  pub by_equalities : read_by_equalities 0 index rows other ≡ slice_index_or rows (natural index) other
  pub by_tree : read_by_tree index rows other ≡ slice_index_or rows (natural index) other

-- where all rows have the length of the other one
abbrev pub ReadsRows : List Bool → List (List Bool) → List Bool → Type 0
ReadsRows index rows other = AllByRecursion (λ r. length r ≡ length other) rows → ReadsRow index rows other

-- the row at an index in two's complement, of which a negative one has no row, where all rows have numbers of as many digits
abbrev pub ReadsSigned : List Bool → List (List Bool) → List Bool → Type 0
ReadsSigned index rows other =
    2 * length rows ≤ 2 ^ length index →
    slice_index_or rows (natural index) other
    ≡ (if int_lt (signed index) (pos 0) then other else slice_index_or rows (unsigned_abs (signed index)) other)
