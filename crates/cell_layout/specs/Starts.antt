-- Where variables begin.
use Rattle.std.specs.Prelude.{◌≡◌, ℕ, ◌+◌, List, [], ◌∷◌}
use Rattle.hll_tree.specs.declared.tree.HllModel.{HllModel}
use Rattle.hll_meaning.specs.Kinds.{Kind, cells}
use Rattle.hll_meaning.specs.Runs.{variables}
use Rattle.hll_meaning.specs.StaticRules.{Well}
use Rattle.hll_meaning.specs.Texts.{HasText}

-- the first cell of each of these variables, where the first of them begins at a cell
abbrev pub starts_from : ℕ → List (List ℕ × Kind) → List ℕ
starts_from start [] = []
starts_from start (x ∷ xs) = start ∷ starts_from (start + cells x.1) xs

-- what is kept of a text without faults
pub record IsLayout (m : HllModel) (starts : List ℕ) : Type 0 where
  pub well : Well m
  pub spelled : HasText m
  pub starts_are : starts ≡ starts_from 0 (variables m)
