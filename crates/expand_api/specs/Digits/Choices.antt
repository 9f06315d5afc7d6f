-- Choosing between lists of digits by a truth value.
use Rattle.std.specs.Prelude.{◌≡◌, Bool, List, [], ◌∷◌, length, if◌then◌else◌}

-- each digit from xs where c is true, and from ys where it is false
abbrev pub choice : Bool → List Bool → List Bool → List Bool
choice c [] ys = []
choice c (x ∷ xs) [] = []
choice c (x ∷ xs) (y ∷ ys) = (if c then x else y) ∷ choice c xs ys

-- ---- law

-- a choice is the one list or the other
abbrev pub Chooses : Bool → List Bool → List Bool → Type 0
Chooses c xs ys = length xs ≡ length ys → choice c xs ys ≡ (if c then xs else ys)
