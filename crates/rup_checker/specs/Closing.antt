-- Unit propagation from nothing, to its end.
use Rattle.std.specs.Prelude.{◌≡◌, ◌≢◌, ◌↔◌, ◌<◌, ◌≤◌, ◌⊎◌, ◌++◌, ◌∷◌, [], ℕ, ℤ, neg_ℤ, Bool, List, length, drop, All, AllPairs, Contains, MatchBool}
use Rattle.rup_checker.specs.Formulas.{Cnf, IsLiteral}
use Rattle.rup_checker.specs.Marks.{LiteralMarks, Marks}
use Rattle.rup_checker.specs.Stores.{clause_at}
use Rattle.rup_checker.specs.Occurrences.{Listing, ListsAll}
use Rattle.rup_checker.specs.Steps.{IsUnit, Propagates, Refutes}
use Rattle.rup_checker.specs.Logs.{IsQuiet}

-- some hints make the empty clause a step: unit propagation reaches a false clause
abbrev pub IsRefuted : List (List ℤ) → Type 0
IsRefuted clauses = (hints : List ℕ) × Refutes clauses [] hints

-- unit propagation takes just these literals false
pub record IsReached (clauses : List (List ℤ)) (taken : List ℤ) : Type 0 where
  pub hints : List ℕ
  pub after : List ℤ
  pub propagated : Propagates clauses [] hints after
  pub same : (l : ℤ) → Contains after l ↔ Contains taken l

-- the literals that are taken false, in order, and how many of them were followed up
pub record TrailState : Type 0 where
  pub variables : ℕ
  pub taken : List ℤ
  pub followed : ℕ

-- just the literals of the list are marked, and each stands in it once
pub record IsTrail (marks : LiteralMarks) (literals : List ℤ) : Type 0 where
  pub bound : marks.variables ≤ 16000000
  pub marked : Marks marks literals
  pub in_range : All (IsLiteral marks.variables) literals
  pub apart : AllPairs (λ a b. a ≢ b) literals

-- the literals that are still to be followed up
abbrev pub waiting : TrailState → List ℤ
waiting trail = drop trail.followed trail.taken

-- a clause that was looked at leaves all as it is, or makes the negation of its one literal that is left false
abbrev pub IsVisited : TrailState → TrailState → List ℤ → Type 0
IsVisited old new clause =
    ((new ≡ old) × IsQuiet (Contains old.taken) clause)
    ⊎ ((l : ℤ) × IsUnit (Contains old.taken) clause l × (new ≡ record old { taken = old.taken ++ neg_ℤ l ∷ [] }))

-- unit propagation takes the literals of the trail false, and every clause is quiet but for those not yet seen and
-- those with a literal that is still to be followed up
pub record IsQuietBut (clauses : List (List ℤ)) (Unseen : ℕ → Type 0) (trail : TrailState) : Type 0 where
  pub reached : IsReached clauses trail.taken
  pub within : trail.followed ≤ length trail.taken
  pub quiet : (n : ℕ) → n < length clauses → ¬ (Unseen n) →
      ((l : ℤ) → Contains (clause_at clauses n) l → ¬ (Contains (waiting trail) l)) →
      IsQuiet (Contains trail.taken) (clause_at clauses n)

-- a propagation over known clauses
pub record Propagating : Type 0 where
  pub known : Cnf
  pub trail : TrailState

-- each known clause is listed under each of its literals
pub record IsPropagation (known : Cnf) (listing : Listing) (trail : TrailState) : Type 0 where
  pub variables : trail.variables ≡ known.variables
  pub listed : listing.variables ≡ known.variables
  pub all : ListsAll known.clauses (length known.clauses) listing

-- a false clause was met, or the propagation goes on, with the clauses that are then unseen
abbrev pub GoesOn : List (List ℤ) → (ℕ → Type 0) → TrailState → Bool → Type 0
GoesOn clauses Unseen trail conflict = MatchBool conflict (IsRefuted clauses) (IsQuietBut clauses Unseen trail)
