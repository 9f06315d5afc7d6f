-- Words for the contracts of private parts: the branches of an `if`.
use Rattle.std.specs.Prelude.{◌≡◌, ℤ, Bool, true, false, List, [], ◌∷◌, fold, Option, Some, None, Result, MatchResult}
use Rattle.hll_meaning.specs.Types.{kind_of}
use Rattle.hll_meaning.specs.Values.{number}
use Rattle.hll_meaning.specs.Judging.{Judged, Tested as Test, Branches, with_branch, with_test, chosen_value}
use Rattle.hll_expressions.specs.declared.choice.Tested.{Tested}
use Rattle.hll_expressions.specs.declared.choice.Together.{Together}
use Rattle.hll_expressions.specs.declared.faults.StaticFault.{StaticFault}
use Rattle.hll_expressions.specs.declared.given.Given.{Given}
use Rattle.hll_expressions.specs.Answers.{IsFaultAt}
use Rattle.hll_expressions.specs.Described.{Describes}

-- no branches
abbrev pub start : Branches
start = record { kind = None; faults = []; wide = false; uneven = false }

-- branches without faults so far
abbrev pub so_far : Option Together → Branches
so_far None = start
so_far (Some t) = record { kind = Some (kind_of t.kind); faults = []; wide = t.wide; uneven = t.uneven }

-- conditions and what stands for each are described
abbrev pub AreBranches : Bool → List Given → List Given → List (Judged × Judged) → Type 0
AreBranches needs [] [] [] = Unit {0}
AreBranches needs [] [] (b ∷ bs) = ⊥
AreBranches needs [] (g ∷ gs) bs = ⊥
AreBranches needs (t ∷ ts) [] bs = ⊥
AreBranches needs (t ∷ ts) (g ∷ gs) [] = ⊥
AreBranches needs (t ∷ ts) (g ∷ gs) (b ∷ bs) = Describes needs t b.0 × Describes needs g b.1 × AreBranches needs ts gs bs

-- so are all parts of an `if`
pub record AreTested (needs : Bool) (t : Tested) (bs : List (Judged × Judged)) (j : Judged) : Type 0 where
  pub branches : AreBranches needs t.conditions t.branches bs
  pub otherwise : Describes needs t.otherwise j

-- a branch joins those before it
abbrev pub IsBranchAdded : Option Together → Given → Result Together StaticFault → Type 0
IsBranchAdded before g result =
    (needs : Bool) (j : Judged) → Describes needs g j →
    MatchResult result (λ t. with_branch (so_far before) j (so_far before).kind ≡ so_far (Some t)) (IsFaultAt (with_branch (so_far before) j (so_far before).kind).faults)

-- what the tests of an `if` come to
abbrev pub IsTested : List Test → Result Together StaticFault → Type 0
IsTested tests result = MatchResult result (λ t. fold with_test start tests ≡ so_far (Some t)) (IsFaultAt (fold with_test start tests).faults)

-- the number of the first branch whose condition is true
abbrev pub IsChosen : Tested → Option ℤ → Type 0
IsChosen t result = (bs : List (Judged × Judged)) (j : Judged) → AreTested true t bs j → result ≡ Some (number (chosen_value bs j))
