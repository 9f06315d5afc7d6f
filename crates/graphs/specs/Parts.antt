-- Private words of this crate: what its parts keep. No public contract cites them.
use Rattle.std.specs.Prelude.{◌≤◌, ℕ, List, [], ◌∷◌, drop, slice_range, slice_index}
use Rattle.graphs.specs.Paths.{Path}

-- the pieces of a list that end at these places, the first from a place on
abbrev pub pieces : List ℕ → ℕ → List ℕ → List (List ℕ)
pieces xs from [] = []
pieces xs from (end ∷ ends) = slice_range xs from end ∷ pieces xs end ends

-- what stands behind the last piece
abbrev pub behind : List ℕ → ℕ → List ℕ → List ℕ
behind xs from [] = drop from xs
behind xs from (end ∷ ends) = behind xs end ends

-- places in order, none of which is past the end of all
abbrev pub AreEnds : ℕ → List ℕ → ℕ → Type 0
AreEnds from [] all = from ≤ all
AreEnds from (end ∷ ends) all = (from ≤ end) × AreEnds end ends all

-- where the piece with this number starts
abbrev pub start_of : List ℕ → ℕ → ℕ
start_of ends number = slice_index (0 ∷ ends) number

-- a node leads to another by some arrows, or is it
abbrev pub Leads : (ℕ → ℕ → Type 0) → ℕ → ℕ → Type 0
Leads Arrow a b = (k : ℕ) × Path Arrow k a b
